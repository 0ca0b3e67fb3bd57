-- The connected parts of a code, as chains of crossings of which each has an edge in common with the next.
use Rattle.std.specs.Prelude.{◌≡◌, ◌<◌, ℕ, true, List, [], ◌∷◌, length, slice_index, slice_index_or}
use Rattle.crossing_codes.specs.declared.crossing.Crossing.{Crossing}
use Rattle.code_rows.specs.CodeMap.{darts, in_slot, no_crossing, is_other_end, twins, parts_below}

-- the edge stands in a slot of the crossing
pub record HasEdge (xs : List Crossing) (k edge : ℕ) : Type 0 where
  pub within : k < length xs
  pub slot : ℕ
  pub four : slot < 4
  pub is : in_slot (slice_index_or xs k no_crossing) slot ≡ edge

-- an edge stands at both crossings
pub record ShareAnEdge (xs : List Crossing) (j k : ℕ) : Type 0 where
  pub edge : ℕ
  pub of_first : HasEdge xs j edge
  pub of_second : HasEdge xs k edge

-- the crossings of the chain lead from j to k
abbrev pub IsPartChain : List Crossing → ℕ → List ℕ → ℕ → Type 0
IsPartChain xs j [] k = (j < length xs) × (j ≡ k)
IsPartChain xs j (i ∷ chain) k = ShareAnEdge xs j i × IsPartChain xs i chain k

-- a chain leads from one to the other
abbrev pub OfOnePart : List Crossing → ℕ → ℕ → Type 0
OfOnePart xs j k = (chain : List ℕ) × IsPartChain xs j chain k

-- each end of an edge has another one, as in a code whose edges join passages
abbrev pub HaveOtherEnds : List Crossing → Type 0
HaveOtherEnds xs = (d : ℕ) → d < darts xs → (e : ℕ) × (e < darts xs) × (is_other_end xs d e ≡ true)

-- the number of the part of a crossing: by a law, the least crossing that a chain joins to it
abbrev pub part_number : List Crossing → ℕ → ℕ
part_number xs k = slice_index (parts_below (twins xs) (length xs) (length (twins xs))) k
