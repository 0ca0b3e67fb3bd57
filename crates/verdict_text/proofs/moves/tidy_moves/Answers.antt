use Rattle.std.proofs.Common.{None}
use Rattle.std.proofs.lemmas.Result.{err_from_is_err_and}
use Rattle.verdict_text.specs.Moves.{tidy_moves}
use Rattle.verdict_text.proofs.TidyTurns.{tidy_more, tidy_fails, tidy_done}
use Rattle.verdict_text.proofs.moves.tidy_moves.Goals as goal

pub returns-in_err-step : goal.returns-in_err-step
returns-in_err-step c =
    let p = err_from_is_err_and c.from_residual.result c.from_residual.ensures.1 in
    rw (p.1, p.2)
    (tidy_fails c.loop.before c.in_err-step.field-0.0 c.loop.moves.items c.args.count c.loop.counter c.loop.lines
    (tidy_moves None c.args.count c.args.lines.now) c.loop-test.true c.in_err-step.ensures c.loop.invariant)

pub loop-preserved : goal.loop-preserved
loop-preserved c =
    rw c.in_ok-push.ensures.items
    (tidy_more c.loop.before c.loop.moves.items c.args.count c.loop.counter c.loop.lines c.in_ok-step.step c.tidy_move.new.lines
    (tidy_moves None c.args.count c.args.lines.now) c.loop-test.true c.in_ok-step.ensures c.loop.invariant)

pub returns : goal.returns
returns c =
    tidy_done c.loop.before c.loop.moves.items c.args.count c.loop.counter c.loop.lines (tidy_moves None c.args.count c.args.lines.now) c.loop-test.false
    c.loop.invariant
