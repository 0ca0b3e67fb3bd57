use Rattle.std.proofs.Common.{◌≤◌, ◌+◌, ◌-◌, length, map}
use Rattle.std.specs.List.{range_with_len}
use Rattle.grid_moves.specs.MoveLists.{row_shift}
use Rattle.search_jobs.specs.Listed.{Adds}
use Rattle.search_jobs.proofs.candidates.shift_rows.Given as goal

abbrev pub invariant-loop-k : goal.invariant-loop-k
invariant-loop-k l = record {
  added : Adds l.grid (map row_shift (range_with_len 1 (l.k - 1))) l.initial.list.items l.list.items;
  fits : length l.list.items + 1 ≤ length l.initial.list.items + l.k;
}
