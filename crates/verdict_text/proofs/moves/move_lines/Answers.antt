use Rattle.std.proofs.lemmas.Result.{err_from_is_err_and}
use Rattle.text_items.specs.Reading.{in_turn}
use Rattle.verdict_text.specs.Moves.{next_move}
use Rattle.text_items.proofs.Turns.{turn_more, turn_fails, turns_done}
use Rattle.verdict_text.proofs.moves.move_lines.Goals as goal

pub returns-in_err-next_move : goal.returns-in_err-next_move
returns-in_err-next_move c =
    let p = err_from_is_err_and c.from_residual.result c.from_residual.ensures.1 in
    rw (p.1, p.2) (turn_fails next_move c.in_err-next_move.field-0.0 c.loop.moves.items c.args.count c.loop.counter c.loop.lines
    (in_turn next_move c.args.count c.args.lines.now) c.loop-test.true c.in_err-next_move.ensures c.loop.invariant)

pub loop-preserved : goal.loop-preserved
loop-preserved c =
    rw c.in_ok-push.ensures.items (turn_more next_move c.loop.moves.items c.args.count c.loop.counter c.loop.lines c.in_ok-next_move.field-0
    c.next_move.new.lines (in_turn next_move c.args.count c.args.lines.now) c.loop-test.true c.in_ok-next_move.ensures c.loop.invariant)

pub returns : goal.returns
returns c = turns_done next_move c.loop.moves.items c.args.count c.loop.counter c.loop.lines
    (in_turn next_move c.args.count c.args.lines.now) c.loop-test.false c.loop.invariant
