use Rattle.std.proofs.Common.{◌≤◌, ◌+◌, length, map}
use Rattle.std.specs.List.{range_with_len}
use Rattle.grid_moves.specs.MoveLists.{column_exchange}
use Rattle.search_jobs.specs.Listed.{Adds}
use Rattle.search_jobs.proofs.candidates.exchange_columns.Given as goal

abbrev pub invariant-loop-c : goal.invariant-loop-c
invariant-loop-c l = record {
  added : Adds l.grid (map column_exchange (range_with_len 0 l.c)) l.initial.list.items l.list.items;
  fits : length l.list.items ≤ length l.initial.list.items + l.c;
}
