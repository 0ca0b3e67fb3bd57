use Rattle.std.proofs.Common.{◌≡◌, map}
use Rattle.std.specs.List.{range_with_len}
use Rattle.braid_closure.specs.Columns.{begun}
use Rattle.braid_closure.proofs.closure.feet_columns.Given as goal

abbrev pub invariant-loop-row : goal.invariant-loop-row
invariant-loop-row l = l.columns.items ≡ map begun (range_with_len 0 l.row)
