-- The listing of a class, breadth first: a list that begins with the form of a diagram, to whose end the exchanges of each
-- member in turn put the keys that are not in it yet.
use Rattle.std.specs.Prelude.{◌≡◌, ◌<◌, ◌≤◌, ◌++◌, ℕ, zero, suc, Bool, List, [], ◌∷◌, length, fold, take, slice_get, Some, if◌then◌else◌}
use Rattle.std.specs.List.{All, Contains, list_any}
use Rattle.grid_core.specs.Diagram.{Diagram, size}
use Rattle.grid_keys.specs.declared.key.Packed.{Packed}
use Rattle.grid_keys.specs.Translation.{translates}
use Rattle.grid_keys.specs.CanonicalForm.{IsCanonicalForm}
use Rattle.grid_keys.specs.Key.{key_of, same_key, IsKeyOf}
use Rattle.next_moves.specs.declared.links.Offer.{Offer}
use Rattle.next_moves.specs.Tries.{exchange_tries}
use Rattle.next_moves.specs.Offers.{AreOffersOf}
use Rattle.mono_simplify.specs.ExchangeClass.{MayDestabilise}

-- the exchanges of d in order, of columns and then of rows, round both circles, each with the key to which it leads; slides are passed over
abbrev pub IsExchangeList : Diagram → List Offer → Type 0
IsExchangeList d offers = AreOffersOf d (size d) (exchange_tries (size d)) offers

abbrev pub has_key : List Packed → Packed → Bool
has_key keys key = list_any (same_key key) keys

-- the list with this key at its end, if it is not in it yet
abbrev pub with_key : List Packed → Packed → List Packed
with_key keys key = if has_key keys key then keys else keys ++ key ∷ []

-- the list with the keys of these offers, likewise, one after another
abbrev pub with_keys : List Packed → List Offer → List Packed
with_keys keys offers = fold (λ (known : List Packed) (offer : Offer). with_key known offer.key) keys offers

-- the exchanges of the member at this place put their keys to the end
pub record Grows (before : List Packed) (place : ℕ) (after : List Packed) : Type 0 where
  pub key : Packed
  pub stands : slice_get before place ≡ Some key
  pub member : Diagram
  pub names : IsKeyOf key member
  pub offers : List Offer
  pub exchanges : IsExchangeList member offers
  pub more : after ≡ with_keys before offers

-- the list of keys after the turns of its first n members
abbrev pub IsListed : Diagram → ℕ → List Packed → Type 0
IsListed d zero keys = (f : Diagram) × (IsCanonicalForm d f × (keys ≡ key_of f ∷ []))
IsListed d (suc n) keys = (before : List Packed) × (IsListed d n before × Grows before n keys)

-- the whole listing of d: each member has had its turn
abbrev pub IsListing : Diagram → List Packed → Type 0
IsListing d keys = IsListed d (length keys) keys

-- no translate of the diagram with this key has a legal destabilisation
abbrev pub NoTranslateDestabilises : Packed → Type 0
NoTranslateDestabilises key = (f e : Diagram) → IsKeyOf key f → Contains (translates f) e → MayDestabilise e → ⊥

-- the whole listing of d has at most b members
pub record HasAtMost (d : Diagram) (b : ℕ) : Type 0 where
  pub keys : List Packed
  pub listing : IsListing d keys
  pub few : length keys ≤ b

-- the listing of d has more than b members, and no translate of the first b has a legal destabilisation
pub record HasMoreAndNoneSmaller (d : Diagram) (b : ℕ) : Type 0 where
  pub turns : ℕ
  pub keys : List Packed
  pub listed : IsListed d turns keys
  pub more : b < length keys
  pub none : All NoTranslateDestabilises (take b keys)
