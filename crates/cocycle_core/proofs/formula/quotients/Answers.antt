use Rattle.std.proofs.Common.{◌/◌, ◌%◌, arith}
use Rattle.quandle_core.proofs.Entries.{entries_more}
use Rattle.cocycle_core.specs.Formula.{quotient}
use Rattle.cocycle_core.proofs.formula.quotients.Goals as goal

pub loop-place-preserved : goal.loop-place-preserved
loop-place-preserved c = (
  entries_more (λ k. quotient c.args.p (k / c.args.p) (k % c.args.p)) c.loop-place.list.items c.push.new.self.items c.loop-place.place
      _ c.loop-place.invariant.0 c.push.ensures.items c.quotient.ensures.quotient,
  omega (arith, c.push.ensures.len),
  c.loop-place.invariant.2,
)
