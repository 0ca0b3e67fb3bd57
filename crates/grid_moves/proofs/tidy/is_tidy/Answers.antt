use Rattle.std.proofs.Common.{◌∙◌, arith, sym}
use Rattle.grid_moves.proofs.Tidied.{tidy_more, tidy_not, tidy_end}
use Rattle.grid_moves.proofs.tidy.is_tidy.Goals as goal

pub loop-step-preserved : goal.loop-step-preserved
loop-step-preserved c =
    c.loop-step.invariant
    ∙ tidy_more c.loop-step.before c.args.steps.now c.loop-step.step-index _ c.loop-step-test.true (sym c.may_follow.ensures ∙ c.if-not-may_follow.false)

pub returns-then-not-may_follow : goal.returns-then-not-may_follow
returns-then-not-may_follow c =
    sym (c.loop-step.invariant
    ∙ tidy_not c.loop-step.before c.args.steps.now c.loop-step.step-index _ c.loop-step-test.true (sym c.may_follow.ensures ∙ c.if-not-may_follow.true))

pub returns : goal.returns
returns c = sym (c.loop-step.invariant ∙ tidy_end c.loop-step.before c.args.steps.now c.loop-step.step-index (omega arith))
