-- Which translates with an X in the lower left cell may be the least; only private clauses and proofs cite this file.
use Rattle.std.specs.Prelude.{◌≡◌, ◌<◌, ℕ, List, map, slice_index}
use Rattle.std.specs.List.{range_with_len}
use Rattle.grid_core.specs.Diagram.{Diagram, size}
use Rattle.grid_keys.specs.Cornered.{cornered}
use Rattle.grid_canon.specs.Digits.{short_number, mark}

-- a column, the row of its X, and the number of the Xs of the translate that has this X in its lower left cell
pub record IsCornered (d : Diagram) (column row crosses : ℕ) : Type 0 where
  pub inside : column < size d
  pub row_is : row ≡ slice_index d.x column
  pub crosses_are : crosses ≡ short_number (cornered d column).x

-- for each column the row of the X of the second column in this translate
abbrev pub second_row : Diagram → ℕ → ℕ
second_row d a = slice_index (cornered d a).x 1

-- the columns where it is below a bound, as digits
abbrev pub marks_below : Diagram → ℕ → List ℕ
marks_below d bound = map (λ a. mark bound (second_row d a)) (range_with_len 0 (size d))

-- the marks are those of the columns where it is below some bound, and there are some
pub record AreLowColumns (d : Diagram) (marks : ℕ) : Type 0 where
  pub bound : ℕ
  pub some : 0 < marks
  pub marked : marks ≡ short_number (marks_below d bound)
