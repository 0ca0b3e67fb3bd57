use Rattle.std.proofs.Common.{◌≤◌, ◌+◌, length, map}
use Rattle.std.specs.List.{range_with_len}
use Rattle.grid_moves.specs.MoveLists.{destabilisation}
use Rattle.search_jobs.specs.Listed.{Adds}
use Rattle.search_jobs.proofs.candidates.destabilise_column.Given as goal

abbrev pub invariant-loop-row : goal.invariant-loop-row
invariant-loop-row l = record {
  added : Adds l.grid (map (destabilisation l.column) (range_with_len 0 l.row)) l.initial.list.items l.list.items;
  fits : length l.list.items ≤ length l.initial.list.items + l.row;
}
