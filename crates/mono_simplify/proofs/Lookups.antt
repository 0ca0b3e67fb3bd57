-- Look-ups in the index of a class.
use Rattle.std.proofs.Common.{◌≡◌, ◌∙◌, ◌∷◌, [], List, true, false, Option, None, Some, is_some, ap, refl}
use Rattle.std.specs.List.{list_any}
use Rattle.std.specs.Map.{lookup, keys_of}
use Rattle.std.proofs.lemmas.Map.Made.{is_some-lookup}
use Rattle.grid_keys.specs.declared.key.Packed.{Packed}
use Rattle.grid_keys.specs.Key.{same_key}
use Rattle.mono_simplify.specs.declared.class.MemberOrigin.{MemberOrigin}
use Rattle.mono_simplify.specs.Listing.{has_key}
use Rattle.mono_simplify.specs.Ways.{Member, keys_in}

keys_same : (members : List Member) → keys_of members ≡ keys_in members
keys_same [] = refl
keys_same (m ∷ members) = ap (λ (ks : List Packed). m.0 ∷ ks) (keys_same members)

pub found_key : (members : List Member) (key : Packed) → is_some (lookup (same_key key) members) ≡ has_key (keys_in members) key
found_key members key = is_some-lookup (same_key key) members ∙ ap (λ (ks : List Packed). list_any (same_key key) ks) (keys_same members)

none_if : (o : Option MemberOrigin) → is_some o ≡ false → o ≡ None
none_if None h = refl
none_if (Some x) h = absurd (let no : true ≡ false = h in cc)

pub absent_key : (members : List Member) (key : Packed) → has_key (keys_in members) key ≡ false → lookup (same_key key) members ≡ None
absent_key members key absent = none_if (lookup (same_key key) members) (found_key members key ∙ absent)
