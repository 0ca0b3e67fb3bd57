use Rattle.std.proofs.Common.{◌≤◌, ◌+◌, length, map}
use Rattle.std.specs.List.{range_with_len}
use Rattle.grid_moves.specs.MoveLists.{row_exchange}
use Rattle.search_jobs.specs.Listed.{Adds}
use Rattle.search_jobs.proofs.candidates.exchange_rows.Given as goal

abbrev pub invariant-loop-r : goal.invariant-loop-r
invariant-loop-r l = record {
  added : Adds l.grid (map row_exchange (range_with_len 0 l.r)) l.initial.list.items l.list.items;
  fits : length l.list.items ≤ length l.initial.list.items + l.r;
}
