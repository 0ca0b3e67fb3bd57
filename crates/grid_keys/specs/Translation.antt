-- Translates: a grid diagram stands on a torus, which may be cut open along any column and any row (Cromwell 1995, Dynnikov 2006).
use Rattle.std.specs.Prelude.{ℕ, List, map, take, drop, ◌++◌}
use Rattle.std.specs.List.{range_with_len, flat_map}
use Rattle.grid_core.specs.Diagram.{Diagram, size}
use Rattle.grid_moves.specs.Shift.{shifted}

-- the rows of a kind, of n columns and rows, after the shift of columns by a and the shift of rows by b
abbrev pub translated_rows : ℕ → ℕ → ℕ → List ℕ → List ℕ
translated_rows n a b rows = map (shifted n b) (drop a rows ++ take a rows)

-- the diagram after the shift of columns by a and the shift of rows by b, where 0 means none
abbrev pub translate : Diagram → ℕ → ℕ → Diagram
translate d a b = record { x = translated_rows (size d) a b d.x; o = translated_rows (size d) a b d.o }

-- all translates of a diagram of size n: each shift of columns from 0 to n - 1, with each such shift of rows
abbrev pub translates : Diagram → List Diagram
translates d = flat_map (λ a. map (λ b. translate d a b) (range_with_len 0 (size d))) (range_with_len 0 (size d))
