-- The signs that signed Gauss lines give; private clauses and proofs alone cite it.
use Rattle.std.specs.Prelude.{◌≡◌, ◌<◌, ℕ, ◌+◌, ◌==◌, Bool, List, [], ◌∷◌, map, length, slice_index_or, if◌then◌else◌}
use Rattle.crossing_codes.specs.declared.crossing.Crossing.{Crossing}
use Rattle.code_rows.specs.CodeMap.{no_crossing}
use Rattle.code_rows.specs.Rows.{row_of_crossing}
use Rattle.code_text.specs.declared.gauss_lines.GaussPassage.{GaussPassage}

-- the sign that the first passage through crossing k has, or this one where there is none
abbrev pub sign_by : List GaussPassage → ℕ → Bool → Bool
sign_by [] k sign = sign
sign_by (p ∷ ps) k sign = if p.crossing == k then p.positive else sign_by ps k sign

-- the crossing at place k, counted from 0, is positive
abbrev pub positive_at : List Crossing → ℕ → Bool
positive_at xs k = (slice_index_or xs k no_crossing).positive

-- the second crossings have the rows of the first, and the signs of the passages
pub record AreSigned (ps : List GaussPassage) (xs ys : List Crossing) : Type 0 where
  pub rows : map row_of_crossing ys ≡ map row_of_crossing xs
  pub signs : (k : ℕ) → k < length xs → positive_at ys k ≡ sign_by ps (k + 1) (positive_at xs k)
