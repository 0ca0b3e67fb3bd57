-- The colours of the strands above all rows, found from those at the feet, row by row from the lowest: private clauses and proofs alone cite this.
use Rattle.std.specs.Prelude.{ℕ, List, map, filter, length, fold, reverse, slice_set, slice_index, not, if◌then◌else◌}
use Rattle.std.specs.List.{range_with_len}
use Rattle.grid_core.specs.declared.mark.Kind.TheVariants.{Cross, Ring}
use Rattle.grid_core.specs.Diagram.{Diagram, size}
use Rattle.grid_core.specs.Parts.{column_of, is_up, is_rightward}
use Rattle.quandle_core.specs.Quandle.{Table, over, back}
use Rattle.grid_braid.specs.Strands.{strands_between}

-- the down columns left of column c
abbrev pub downs_before : Diagram → ℕ → List ℕ
downs_before d c = filter (λ k. not (is_up d k)) (range_with_len 0 c)

-- by column: the feet at the down columns, and 0 at the others
abbrev pub laid : Diagram → List ℕ → List ℕ
laid d feet = map (λ c. if is_up d c then 0 else slice_index feet (length (downs_before d c))) (range_with_len 0 (size d))

-- the colour with which the strand that row r moves arrives at the X, where `colour` gives the strand of each column its colour below the row:
-- to the right it passes under each strand between from that one's left, to the left from that one's right
abbrev pub moved_colour : Table → Diagram → (ℕ → ℕ) → ℕ → ℕ
moved_colour t d colour r =
    if is_rightward d r then fold (back t) (colour (column_of Ring d r)) (map colour (strands_between d r))
    else fold (over t) (colour (column_of Ring d r)) (reverse (map colour (strands_between d r)))

-- the colours of the strands, by column, above row r, and above the rows below height h
abbrev pub swept_row : Table → Diagram → List ℕ → ℕ → List ℕ
swept_row t d colours r = slice_set colours (column_of Cross d r) (moved_colour t d (slice_index colours) r)

abbrev pub swept : Table → Diagram → List ℕ → ℕ → List ℕ
swept t d colours h = fold (swept_row t d) colours (range_with_len 0 h)
