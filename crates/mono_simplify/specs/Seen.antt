-- The keys that were listed, and the least of them; only private clauses and proofs cite this file.
use Rattle.std.specs.Prelude.{◌≡◌, ◌<◌, ◌≤◌, ℕ, List, length, take, slice_get, Some}
use Rattle.std.specs.List.{All}
use Rattle.grid_core.specs.Diagram.{Diagram}
use Rattle.grid_keys.specs.declared.key.Packed.{Packed}
use Rattle.mono_simplify.specs.Listing.{IsListed, IsListing}
use Rattle.mono_simplify.specs.declared.least.LeastEnd.{LeastEnd}
use Rattle.mono_simplify.specs.declared.least.LeastEnd.TheVariants.{Whole, Spent}
use Rattle.mono_simplify.specs.Least.{IsKeyAtMost}

-- the keys are the first b of the listing of d, which has more
pub record IsCut (d : Diagram) (b : ℕ) (keys : List Packed) : Type 0 where
  pub turns : ℕ
  pub whole : List Packed
  pub listed : IsListed d turns whole
  pub more : b < length whole
  pub cut : keys ≡ take b whole

-- the keys that were listed, with a budget of b members
abbrev pub IsSeen : Diagram → ℕ → List Packed → LeastEnd → Type 0
IsSeen d b keys Whole = IsListing d keys × (length keys ≤ b)
IsSeen d b keys (Spent members) = (members ≡ b) × IsCut d b keys

-- the key at this place of the list is at most each of some keys
pub record IsLeastAt (some keys : List Packed) (place : ℕ) : Type 0 where
  pub key : Packed
  pub stands : slice_get keys place ≡ Some key
  pub least : All (IsKeyAtMost key) some
