use Rattle.std.proofs.lemmas.Result.{err_from_is_err_and}
use Rattle.text_items.specs.Reading.{in_turn}
use Rattle.knot_text.specs.BraidSteps.{braid_step_item}
use Rattle.text_items.proofs.Turns.{turn_more, turn_fails, turns_done}
use Rattle.knot_text.proofs.braid_steps.step_lines.Goals as goal

pub returns-in_err-braid_step_item : goal.returns-in_err-braid_step_item
returns-in_err-braid_step_item c =
    let p = err_from_is_err_and c.from_residual.result c.from_residual.ensures.1 in
    rw (p.1, p.2) (turn_fails braid_step_item c.in_err-braid_step_item.field-0.0 c.loop.steps.items c.args.count c.loop.counter c.loop.lines
    (in_turn braid_step_item c.args.count c.args.lines.now) c.loop-test.true c.in_err-braid_step_item.ensures c.loop.invariant)

pub loop-preserved : goal.loop-preserved
loop-preserved c =
    rw c.in_ok-push.ensures.items (turn_more braid_step_item c.loop.steps.items c.args.count c.loop.counter c.loop.lines
    c.in_ok-braid_step_item.field-0 c.braid_step_item.new.lines (in_turn braid_step_item c.args.count c.args.lines.now)
    c.loop-test.true c.in_ok-braid_step_item.ensures c.loop.invariant)

pub returns : goal.returns
returns c =
    turns_done braid_step_item c.loop.steps.items c.args.count c.loop.counter c.loop.lines
    (in_turn braid_step_item c.args.count c.args.lines.now) c.loop-test.false c.loop.invariant
