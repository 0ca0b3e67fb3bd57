use Rattle.std.proofs.Common.{ap, subst, arith}
use Rattle.quandle_core.specs.Quandle.{Table, IsQuandle}
use Rattle.quandle_core.proofs.large_names.LargeListed.table.Goals as goal

pub invariant_of-result : goal.invariant_of-result
invariant_of-result c = (
  subst IsQuandle c.operations.ensures c.order-order.ensures.quandle,
  omega (arith, ap (λ (t : Table). t.order) c.operations.ensures, c.order-order.ensures.order, c.order-order.ensures.few),
)
