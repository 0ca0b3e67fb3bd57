use Rattle.std.proofs.Common.{◌≡◌, ◌+◌, ◌-◌, ◌++◌, length}
use Rattle.braid_closure.specs.Closure.{closing}
use Rattle.braid_closure.proofs.closure.append_closing.Given as goal

abbrev pub invariant-loop-done : goal.invariant-loop-done
invariant-loop-done l = (l.fn.columns.items ++ closing l.size l.strands ≡ l.columns.items ++ closing l.size (l.strands - l.done))
    × (length l.columns.items ≡ length l.fn.columns.items + l.done)
