use Rattle.std.proofs.Common.{◌≡◌, length, ap, arith}
use Rattle.table_check.specs.TableHolds.{ClassAt}
use Rattle.table_check.proofs.Below.{below_none, below_more, below_all}
use Rattle.table_check.proofs.classes.classes_cause.Goals as goal

pub loop-at-init : goal.loop-at-init
loop-at-init c = below_none (ClassAt c.args.table.now)

pub loop-at-preserved : goal.loop-at-preserved
loop-at-preserved c = below_more (ClassAt c.args.table.now) c.loop-at.at c.loop-at.invariant (c.in_ok-cause.ensures.none c.in_default.is)

pub returns-clause-none : goal.returns-clause-none
returns-clause-none c = λ none.
    let long : length c.as_slice-at-end.result.now ≡ length c.args.table.now.classes = ap length c.as_slice-at-end.ensures in
    below_all (ClassAt c.args.table.now) c.loop-at.at (length c.args.table.now.classes) (omega (arith, long)) c.loop-at.invariant
