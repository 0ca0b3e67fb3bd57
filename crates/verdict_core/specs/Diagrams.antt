-- The grid of a diagram as it is given.
use Rattle.std.specs.Prelude.{ℕ}
use Rattle.grid_core.specs.Diagram.{Diagram as Marks, size}
use Rattle.braid_closure.specs.Closure.{closure}
use Rattle.verdict_core.specs.declared.diagrams.Diagram.{Diagram}
use Rattle.verdict_core.specs.declared.diagrams.Diagram.TheVariants.{Grid, Braid}

-- the grid of a diagram: a braid stands for its closure
abbrev pub grid_of : Diagram → Marks
grid_of (Grid d) = d
grid_of (Braid b) = closure b

-- the number of its columns
abbrev pub column_count : Diagram → ℕ
column_count d = size (grid_of d)
