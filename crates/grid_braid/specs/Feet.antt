-- The colours of the strands of a grid diagram that is read as a braid, from the colours of its columns, and those at the feet of its word.
-- Where a down column is replaced by its complement, that strand is laid over all that stands to the column's right.
use Rattle.std.specs.Prelude.{ℕ, ◌+◌, List, map, take, drop, ◌++◌, fold, slice_index}
use Rattle.grid_core.specs.Diagram.{Diagram}
use Rattle.quandle_core.specs.Quandle.{Table, back}
use Rattle.grid_braid.specs.Strands.{down_columns}

-- so every column right of column c, of a colour y, passes under the strand of column c, of colour d, from its left to its right: y becomes y ◁ d
abbrev pub passed_under : Table → List ℕ → ℕ → List ℕ
passed_under t colours c = take (c + 1) colours ++ map (λ y. back t y (slice_index colours c)) (drop (c + 1) colours)

-- the colours of the strands, by column: this is done for each down column from left to right, with its colour as already changed
abbrev pub strand_colours : Table → Diagram → List ℕ → List ℕ
strand_colours t d colours = fold (passed_under t) colours (down_columns d)

-- the colours at the feet: those of the down columns, which are the strands below all rows
abbrev pub at_feet : Table → Diagram → List ℕ → List ℕ
at_feet t d colours = map (slice_index (strand_colours t d colours)) (down_columns d)
