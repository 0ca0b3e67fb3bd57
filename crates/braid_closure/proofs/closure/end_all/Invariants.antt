use Rattle.std.proofs.Common.{◌≡◌, ◌-◌, length}
use Rattle.braid_closure.specs.Columns.{open_columns}
use Rattle.braid_closure.specs.Closure.{ended_at_the_top}
use Rattle.braid_closure.proofs.closure.end_all.Given as goal

abbrev pub invariant-loop-done : goal.invariant-loop-done
invariant-loop-done l = (ended_at_the_top l.size l.strands l.fn.columns.items ≡ ended_at_the_top l.size (l.strands - l.done) l.columns.items)
    × (length (open_columns l.columns.items) ≡ l.strands - l.done)
    × (length l.columns.items ≡ length l.fn.columns.items)
