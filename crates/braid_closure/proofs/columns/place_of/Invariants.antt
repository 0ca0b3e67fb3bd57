use Rattle.std.proofs.Common.{◌≡◌, ◌≤◌, ◌+◌, length, take}
use Rattle.braid_closure.specs.Columns.{open_columns}
use Rattle.braid_closure.proofs.columns.place_of.Given as goal

abbrev pub invariant-loop-place : goal.invariant-loop-place
invariant-loop-place l = (length (open_columns (take l.place l.columns)) + l.left ≡ l.position) × (1 ≤ l.left)
