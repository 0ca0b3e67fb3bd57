use Rattle.std.proofs.Common.{◌≡◌, ◌+◌, length, take}
use Rattle.braid_closure.specs.Columns.{open_columns}
use Rattle.braid_closure.specs.Closure.{after_letters}
use Rattle.braid_closure.proofs.closure.cross_all.Given as goal

abbrev pub invariant-loop-place : goal.invariant-loop-place
invariant-loop-place l = (l.columns.items ≡ after_letters l.strands l.fn.columns.items (take l.place l.letters))
    × (length (open_columns l.columns.items) ≡ l.strands)
    × (length l.columns.items ≡ length l.fn.columns.items + l.place)
