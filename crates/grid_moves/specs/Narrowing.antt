-- A diagram without one of its rows and, for the marks of each kind, without the column whose mark stands in that row: what a destabilisation makes.
use Rattle.std.specs.Prelude.{map}
use Rattle.std.specs.List.{remove}
use Rattle.grid_core.specs.Diagram.{Diagram}
use Rattle.grid_core.specs.Places.{lowered}
use Rattle.grid_moves.specs.declared.destabilisation.Narrowing.{Narrowing}

-- the rows above the one taken out, and of each kind the columns behind its column, get the number before
abbrev pub narrowed : Narrowing → Diagram → Diagram
narrowed n d = record {
  x = map (lowered n.row) (remove d.x n.crosses);
  o = map (lowered n.row) (remove d.o n.rings);
}
