use Rattle.std.proofs.Common.{arith}
use Rattle.seek_core.proofs.ByFormula.{factor_more}
use Rattle.seek_core.proofs.formulas.push_order.Goals as goal

pub loop-factor-preserved : goal.loop-factor-preserved
loop-factor-preserved c =
    let least = c.loop-factor.invariant.0 in (
      omega (arith, least),
      factor_more c.args.order c.loop-factor.factor c.args.list.now.items c.loop-factor.list.items
          c.push_named-in-loop-factor.new.list.items least c.loop-factor.invariant.1 c.in_ok-push_named-2.ensures,
    )
