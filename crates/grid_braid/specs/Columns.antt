-- The colours of the columns of a grid diagram, from those of the strands of its word: the way of `Feet` taken back. Private clauses and proofs alone
-- cite this.
use Rattle.std.specs.Prelude.{ℕ, ◌+◌, List, map, take, drop, ◌++◌, fold, reverse, slice_index}
use Rattle.grid_core.specs.Diagram.{Diagram}
use Rattle.quandle_core.specs.Quandle.{Table, over}
use Rattle.grid_braid.specs.Strands.{down_columns}

-- every column right of column c goes from y to y ▷ d, where d is the colour of column c
abbrev pub passed_back : Table → List ℕ → ℕ → List ℕ
passed_back t colours c = take (c + 1) colours ++ map (λ y. over t y (slice_index colours c)) (drop (c + 1) colours)

-- the colours of the columns: so for each down column from right to left
abbrev pub column_colours : Table → Diagram → List ℕ → List ℕ
column_colours t d colours = fold (passed_back t) colours (reverse (down_columns d))
