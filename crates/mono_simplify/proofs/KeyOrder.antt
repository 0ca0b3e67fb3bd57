-- Keys in order, and where the least of some stands.
use Rattle.std.proofs.Common.{◌≡◌, ◌≢◌, ◌<◌, ◌+◌, ◌∷◌, [], ℕ, List, true, false, length, take, get_or, slice_get, Some, arith, sym, refl, ap, subst}
use Rattle.std.specs.List.{Contains}
use Rattle.std.specs.declared.cmp.Ordering.{Ordering}
use Rattle.std.specs.declared.cmp.Ordering.TheVariants.{Less, Equal, Greater}
use Rattle.std.specs.Ordering.{ordering_reverse, is_le, is_gt}
use Rattle.std.specs.Cmp.{IsTotalOrder}
use Rattle.std.proofs.lemmas.Cmp.{nat_cmp_total, nat_list_cmp_total, on_total, then_total, tied_itself, upto}
use Rattle.std.proofs.lemmas.List.Elements.{All-more}
use Rattle.std.proofs.lemmas.Option.{slice_get_within, get_or_from_slice_get}
use Rattle.grid_keys.specs.declared.key.Packed.{Packed}
use Rattle.grid_keys.specs.Key.{compare_keys}
use Rattle.mono_simplify.specs.Ways.{Member, keys_in}
use Rattle.mono_simplify.specs.Least.{IsKeyAtMost}
use Rattle.mono_simplify.specs.Seen.{IsLeastAt}

-- orders
not_greater : (o : Ordering) → is_le o ≡ true → is_gt o ≡ false
not_greater Less le = refl
not_greater Equal le = refl
not_greater Greater le = absurd (let no : false ≡ true = le in cc)

at_most : (o : Ordering) → is_gt o ≡ false → is_le o ≡ true
at_most Less h = refl
at_most Equal h = refl
at_most Greater h = absurd (let no : true ≡ false = h in cc)

at_most_back : (o p : Ordering) → o ≡ ordering_reverse p → o ≢ Less → is_le p ≡ true
at_most_back o Less is not = refl
at_most_back o Equal is not = refl
at_most_back o Greater is not = absurd (not is)

pub up_to : {K : Type 0} (R : K → K → Ordering) (x y z : K) → IsTotalOrder R → is_le (R x y) ≡ true → is_le (R y z) ≡ true → is_le (R x z) ≡ true
up_to R x y z total one two = at_most (R x z) (upto total x y z (not_greater (R x y) one) (not_greater (R y z) two))

-- keys
pub keys_total : IsTotalOrder compare_keys
keys_total =
    then_total (on_total (λ (p : Packed). p.size) nat_cmp_total)
    (then_total (on_total (λ (p : Packed). p.x) nat_list_cmp_total) (on_total (λ (p : Packed). p.o) nat_list_cmp_total))

key_itself : (p : Packed) → IsKeyAtMost p p
key_itself p = ap is_le (tied_itself keys_total p)

pub least_begin : (members : List Member) → 0 < length members → IsLeastAt (take 0 (keys_in members)) (keys_in members) 0
least_begin [] some = absurd (omega (arith, some))
least_begin (m ∷ members) some = record { key = m.0; stands = refl; least = λ k d lt. absurd (omega (arith, lt)) }

-- one key more, which is not less, or is
pub least_kept : (keys : List Packed) (best place : ℕ) (p q : Packed)
    → IsLeastAt (take place keys) keys best
    → slice_get keys best ≡ Some p
    → slice_get keys place ≡ Some q
    → compare_keys q p ≢ Less
    → IsLeastAt (take (place + 1) keys) keys best
least_kept keys best place p q at here stands not =
    let same : p ≡ at.key = (let a = at.stands in let b = here in cc) in
    let le : IsKeyAtMost p q = at_most_back (compare_keys q p) (compare_keys p q) (keys_total.antisymm q p) not in
    let read : q ≡ get_or keys place q = sym (get_or_from_slice_get keys place q q stands) in
    record {
      key = at.key;
      stands = at.stands;
      least = All-more (IsKeyAtMost at.key) keys place q (slice_get_within keys place q stands) at.least
          (subst (λ (k : Packed). IsKeyAtMost k (get_or keys place q)) same (subst (λ (k : Packed). IsKeyAtMost p k) read le));
    }

pub least_taken : (keys : List Packed) (best place : ℕ) (p q : Packed)
    → IsLeastAt (take place keys) keys best
    → slice_get keys best ≡ Some p
    → slice_get keys place ≡ Some q
    → compare_keys q p ≡ Less
    → IsLeastAt (take (place + 1) keys) keys place
least_taken keys best place p q at here stands less =
    let same : at.key ≡ p = (let a = at.stands in let b = here in cc) in
    let below : IsKeyAtMost q at.key = subst (λ (k : Packed). IsKeyAtMost q k) (sym same) (ap is_le less) in
    let read : q ≡ get_or keys place q = sym (get_or_from_slice_get keys place q q stands) in
    record {
      key = q;
      stands = stands;
      least = All-more (IsKeyAtMost q) keys place q (slice_get_within keys place q stands)
          (λ k d lt. up_to compare_keys q at.key (get_or (take place keys) k d) keys_total below (at.least k d lt))
          (subst (λ (k : Packed). IsKeyAtMost q k) read (key_itself q));
    }

pub stands_contains : (keys : List Packed) (place : ℕ) (key : Packed) → slice_get keys place ≡ Some key → Contains keys key
stands_contains keys place key stands = (place, slice_get_within keys place key stands, get_or_from_slice_get keys place key key stands)
