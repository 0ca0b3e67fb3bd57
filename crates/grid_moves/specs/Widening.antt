-- A diagram with one more row and, for the marks of each kind, one more column, whose mark stands in that row: what a stabilisation makes.
use Rattle.std.specs.Prelude.{map}
use Rattle.std.specs.List.{insert}
use Rattle.grid_core.specs.Diagram.{Diagram}
use Rattle.grid_core.specs.Places.{lifted}
use Rattle.grid_moves.specs.declared.stabilisation.Widening.{Widening}

-- the rows at or above the new one, and of each kind the columns at or behind its new one, get the next number
abbrev pub widened : Widening → Diagram → Diagram
widened w d = record {
  x = insert (map (lifted w.row) d.x) w.crosses w.row;
  o = insert (map (lifted w.row) d.o) w.rings w.row;
}
