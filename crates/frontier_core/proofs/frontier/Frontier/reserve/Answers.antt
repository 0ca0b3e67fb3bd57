use Rattle.std.proofs.Common.{arith}
use Rattle.frontier_core.proofs.Empty as empty
use Rattle.frontier_core.proofs.frontier.Frontier.reserve.Goals as goal

pub invariant_of-result : goal.invariant_of-result
invariant_of-result c = empty.linked c.in_ok-next.next.items (omega (arith, c.in_ok-next.ensures.len, c.ranges.capacity.fits, c.in_ok-next.next.ok.0))

pub returns-clause-order : goal.returns-clause-order
returns-clause-order c = λ size. empty.ids c.in_ok-next.next.items size
