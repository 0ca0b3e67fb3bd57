use Rattle.std.proofs.Common.{◌≤◌, ◌+◌, length, map, take}
use Rattle.grid_core.specs.Corners.{corners}
use Rattle.next_moves.specs.Tries.{try_stabilisation}
use Rattle.next_moves.specs.Extends.{Extends}
use Rattle.next_moves.proofs.tries.Tries.stabilise_mark.Given as goal

abbrev pub invariant-loop-corner : goal.invariant-loop-corner
invariant-loop-corner l = record {
  offered : Extends l.self.diagram l.self.cap (map (try_stabilisation l.column l.kind) (take l.corner-index corners)) l.initial.list.items l.list.items;
  fits : length l.list.items ≤ length l.initial.list.items + l.corner-index;
}
