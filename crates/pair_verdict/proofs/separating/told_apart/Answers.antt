use Rattle.std.proofs.Common.{rules, sym, ◌∙◌}
use Rattle.pair_verdict.proofs.FirstFound.{told, not_told}
use Rattle.pair_verdict.proofs.separating.told_apart.Goals as goal

pub returns-then-is_some-clause-verdict : goal.returns-then-is_some-clause-verdict
returns-then-is_some-clause-verdict c = told c.args.first.now c.args.second.now c.args.quandles.now c.loop-listed.listed-index c.listed-item.result
    c.in_ok-verdict.verdict c.loop-listed-test.true c.loop-listed.invariant (search rules) c.in_ok-verdict.ensures.verdict
    (sym c.is_some.ensures ∙ c.if-is_some.true)

pub loop-listed-preserved : goal.loop-listed-preserved
loop-listed-preserved c = not_told c.args.first.now c.args.second.now c.args.quandles.now c.loop-listed.listed-index c.listed-item.result
    c.in_ok-verdict.verdict c.loop-listed-test.true c.loop-listed.invariant (search rules) c.in_ok-verdict.ensures.verdict
    (sym c.is_some.ensures ∙ c.if-is_some.false)
