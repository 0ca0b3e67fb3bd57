use Rattle.std.proofs.Common.{◌≤◌, ◌+◌, length, map, take}
use Rattle.grid_core.specs.Corners.{corners}
use Rattle.grid_moves.specs.MoveLists.{stabilisation}
use Rattle.search_jobs.specs.Listed.{Adds}
use Rattle.search_jobs.proofs.candidates.stabilise_mark.Given as goal

abbrev pub invariant-loop-corner : goal.invariant-loop-corner
invariant-loop-corner l = record {
  added : Adds l.grid (map (stabilisation l.column l.kind) (take l.corner-index corners)) l.initial.list.items l.list.items;
  fits : length l.list.items ≤ length l.initial.list.items + l.corner-index;
}
