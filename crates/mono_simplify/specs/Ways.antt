-- Members of a class with the ways to them.
use Rattle.std.specs.Prelude.{◌≡◌, ◌<◌, ◌+◌, ◌++◌, ℕ, suc, List, Bool, true, false, length, map, take, nat_lt, slice_get, Some}
use Rattle.std.specs.List.{All, Contains, list_any}
use Rattle.grid_core.specs.Diagram.{Diagram, size}
use Rattle.grid_keys.specs.declared.key.Packed.{Packed}
use Rattle.grid_keys.specs.CanonicalForm.{IsCanonicalForm}
use Rattle.grid_keys.specs.Key.{key_of, IsKeyOf}
use Rattle.next_moves.specs.declared.links.Offer.{Offer}
use Rattle.next_moves.specs.Offers.{Leads}
use Rattle.mono_simplify.specs.declared.class.MemberOrigin.{MemberOrigin}
use Rattle.mono_simplify.specs.declared.explore.Explored.{Explored}
use Rattle.mono_simplify.specs.declared.explore.Explored.TheVariants.{Smaller, Whole, More}
use Rattle.grid_moves.specs.Joining.{JoinsWithin}
use Rattle.mono_simplify.specs.ExchangeClass.{is_shift_or_exchange, IsIrreducible}
use Rattle.grid_moves.specs.Kinds.{is_destabilisation}
use Rattle.mono_simplify.specs.Simplified.{AreMonotonic}
use Rattle.mono_simplify.specs.Listing.{IsExchangeList, IsListed, NoTranslateDestabilises, HasAtMost, HasMoreAndNoneSmaller}

abbrev pub Member : Type 0
Member = Packed × MemberOrigin

abbrev pub keys_in : List Member → List Packed
keys_in members = map (λ (m : Member). m.0) members

-- the link leads by an exchange from the diagram of the parent's key to that of the key, at the size of d
pub record IsExchangeLink (d : Diagram) (keys : List Packed) (place : ℕ) (key : Packed) (origin : MemberOrigin) : Type 0 where
  pub lower : origin.parent < place
  pub parent : Packed
  pub stands : slice_get keys origin.parent ≡ Some parent
  pub from : Diagram
  pub to : Diagram
  pub known : IsKeyOf parent from
  pub reached : IsKeyOf key to
  pub same : size from ≡ size d
  pub small : size to ≡ size d
  pub leads : Leads from origin.link to
  pub exchanges : is_shift_or_exchange origin.link.step ≡ true

-- the first member is the form of d, and each other one is linked to an earlier one
pub record AreLinked (d : Diagram) (members : List Member) : Type 0 where
  pub root : (m : Member) → slice_get members 0 ≡ Some m → (f : Diagram) × (IsCanonicalForm d f × (key_of f ≡ m.0))
  pub child : (place : ℕ) (m : Member) → slice_get members (suc place) ≡ Some m → IsExchangeLink d (keys_in members) (suc place) m.0 m.1

-- a member that one of these offers, made at the member of this place, reached
abbrev pub IsOffered : ℕ → List Offer → Member → Type 0
IsOffered place offers m = (m.1.parent ≡ place) × Contains offers (record { key = m.0; link = m.1.link })

-- the members are the old ones and then some that these offers reached
pub record Admits (place : ℕ) (offers : List Offer) (old new : List Member) : Type 0 where
  pub more : List Member
  pub is : new ≡ old ++ more
  pub offered : All (IsOffered place offers) more

-- the first b of the listing of d, after the turns of those below this place; once it has more than b, no turn adds to them
pub record IsExplored (d : Diagram) (b place : ℕ) (keys : List Packed) (full : Bool) : Type 0 where
  pub turns : ℕ
  pub whole : List Packed
  pub listed : IsListed d turns whole
  pub cut : keys ≡ take b whole
  pub over : full ≡ nat_lt b (length whole)
  pub turn : full ≡ false → turns ≡ place
  pub none : All NoTranslateDestabilises (take place keys)

-- the turn of the member at this place, whose exchanges these are, leads from one such list to the next, where no translate of the member
-- has a legal destabilisation
abbrev pub IsExploredAfter : ℕ → ℕ → List Offer → List Packed → Bool → List Packed → Bool → Type 0
IsExploredAfter b place exchanges before full after full_after =
    (d : Diagram) (key : Packed) (member : Diagram)
    → IsExplored d b place before full
    → slice_get before place ≡ Some key
    → IsKeyOf key member
    → IsExchangeList member exchanges
    → NoTranslateDestabilises key
    → IsExplored d b (place + 1) after full_after

-- what the class of d showed with a budget of b members
abbrev pub IsExploredTo : Diagram → ℕ → Explored → Type 0
IsExploredTo d b (Smaller smaller moves) = JoinsWithin (size d) d moves.items smaller × (size smaller + 1 ≡ size d)
    × (list_any is_destabilisation moves.items ≡ true) × AreMonotonic moves.items
IsExploredTo d b Whole = HasAtMost d b × IsIrreducible d
IsExploredTo d b More = HasMoreAndNoneSmaller d b
