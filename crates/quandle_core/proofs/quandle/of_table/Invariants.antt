use Rattle.quandle_core.proofs.Columns.{IsLaidOut}
use Rattle.quandle_core.proofs.quandle.of_table.Given as goal

abbrev pub invariant-loop-x : goal.invariant-loop-x
invariant-loop-x l = IsLaidOut (record { order = l.order; entries = l.table }) l.forward l.backward l.y l.x

abbrev pub invariant-loop-y : goal.invariant-loop-y
invariant-loop-y l = IsLaidOut (record { order = l.order; entries = l.table }) l.forward l.backward l.y 0
