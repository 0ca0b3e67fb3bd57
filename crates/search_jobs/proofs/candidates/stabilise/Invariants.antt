use Rattle.std.proofs.Common.{◌≤◌, ◌+◌, ◌*◌, length}
use Rattle.std.specs.List.{range_with_len, flat_map}
use Rattle.grid_moves.specs.MoveLists.{stabilisations}
use Rattle.search_jobs.specs.Listed.{Adds}
use Rattle.search_jobs.proofs.candidates.stabilise.Given as goal

abbrev pub invariant-loop-c : goal.invariant-loop-c
invariant-loop-c l = record {
  added : Adds l.grid (flat_map stabilisations (range_with_len 0 l.c)) l.initial.list.items l.list.items;
  fits : length l.list.items ≤ length l.initial.list.items + 8 * l.c;
}
