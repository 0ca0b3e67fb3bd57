-- What all columns do at a height between two neighbouring rows.
use Rattle.std.specs.Prelude.{ℕ, Bool, List, filter, fold}
use Rattle.std.specs.List.{range_with_len}
use Rattle.grid_core.specs.Diagram.{Diagram, size}
use Rattle.grid_core.specs.Span.{crosses_height}
use Rattle.grid_core.specs.Parts.{column_span}
use Rattle.quandle_core.specs.Quandle.{Table}
use Rattle.colour_rows.specs.Walk.{under}

-- column c covers the height between row h - 1 and row h: one of its marks lies below, the other above
abbrev pub covers_height : Diagram → ℕ → ℕ → Bool
covers_height d h c = crosses_height (column_span d c) h

-- what colour x becomes under all columns that cover the height, from left to right
abbrev pub across_height : Table → Diagram → List ℕ → ℕ → ℕ → ℕ
across_height t d colours h x = fold (under t d colours) x (filter (covers_height d h) (range_with_len 0 (size d)))
