use Rattle.std.proofs.Common.{◌∙◌, sym}
use Rattle.table_check.specs.TableHolds.{ShownAt}
use Rattle.table_check.proofs.Below.{below_none, below_more}
use Rattle.table_check.proofs.Causes.{shown_here, fails_here}
use Rattle.table_check.proofs.classes.blocks_cause.Goals as goal

pub loop-at-init : goal.loop-at-init
loop-at-init c = below_none (ShownAt c.args.blocks.now c.args.class.now)

pub loop-at-preserved : goal.loop-at-preserved
loop-at-preserved c =
    below_more (ShownAt c.args.blocks.now c.args.class.now) c.loop-at.at c.loop-at.invariant
    (shown_here c.args.blocks.now c.args.class.now c.loop-at.at c.index-blocks-at.result _ c.args.grid.now c.requires.grid c.requires.settled
    c.index-blocks-at.is (sym c.in_ok-cause.ensures ∙ c.in_default.is))

pub returns-in-Some-clause-some : goal.returns-in-Some-clause-some
returns-in-Some-clause-some c =
    fails_here c.args.blocks.now c.args.class.now c.loop-at.at c.index-blocks-at.result _ c.args.grid.now c.in-Some.cause c.requires.grid c.requires.settled
    c.loop-at.invariant c.loop-at-test.true c.index-blocks-at.is (sym c.in_ok-cause.ensures ∙ c.in-Some.is)
