-- The walk of a row from its left end to its right end, under the columns that cover it.
-- Passing under a strand from its right to its left takes x to x ▷ y, where y is the strand's colour (Joyce 1982).
use Rattle.std.specs.Prelude.{ℕ, ◌+◌, ◌-◌, ◌==◌, Bool, List, filter, fold, slice_index, if◌then◌else◌}
use Rattle.std.specs.List.{range_with_len}
use Rattle.grid_core.specs.Diagram.{Diagram}
use Rattle.grid_core.specs.Parts.{covers, is_up, ends}
use Rattle.quandle_core.specs.Quandle.{Table, over, back}

-- what colour x becomes under a column of colour y from left to right: x ◁ y where the column is up, x ▷ y where it is down
abbrev pub passed_rightward : Table → Bool → ℕ → ℕ → ℕ
passed_rightward t up x y = if up then back t x y else over t x y

-- and from right to left, which is what it was before
abbrev pub passed_leftward : Table → Bool → ℕ → ℕ → ℕ
passed_leftward t up x y = if up then over t x y else back t x y

-- what colour x becomes under column c, from left to right
abbrev pub under : Table → Diagram → List ℕ → ℕ → ℕ → ℕ
under t d colours x c = passed_rightward t (is_up d c) x (slice_index colours c)

-- the columns that row r passes under, from left to right: those strictly between its ends that cover it
abbrev pub passed : Diagram → ℕ → List ℕ
passed d r = filter (λ c. covers d c r) (range_with_len ((ends d r).low + 1) ((ends d r).high - (ends d r).low - 1))

-- the colour of the walk of row r when it has come to column c, before it passes under it
abbrev pub walk_to : Table → Diagram → List ℕ → ℕ → ℕ → ℕ
walk_to t d colours r c =
    fold (under t d colours) (slice_index colours (ends d r).low)
    (filter (λ b. covers d b r) (range_with_len ((ends d r).low + 1) (c - (ends d r).low - 1)))

-- the last colour of the walk of row r, which starts with the colour of its left end
abbrev pub walk : Table → Diagram → List ℕ → ℕ → ℕ
walk t d colours r = fold (under t d colours) (slice_index colours (ends d r).low) (passed d r)

-- the walk of row r ends with the colour of its right end
abbrev pub closes : Table → Diagram → List ℕ → ℕ → Bool
closes t d colours r = walk t d colours r == slice_index colours (ends d r).high
