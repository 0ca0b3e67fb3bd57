use Rattle.std.proofs.Common.{arith}
use Rattle.quandle_core.proofs.names.Listed.table.Goals as goal

pub invariant_of-result : goal.invariant_of-result
invariant_of-result c = (c.order-order.ensures.quandle, omega (arith, c.order-order.ensures.order, c.order-order.ensures.few))
