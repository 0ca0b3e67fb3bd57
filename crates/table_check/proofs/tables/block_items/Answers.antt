use Rattle.std.proofs.lemmas.Result.{err_from_is_err_and}
use Rattle.text_items.specs.Reading.{in_turn}
use Rattle.quandle_core.specs.declared.operations.TheConstants.{MAX_LARGE_ORDER}
use Rattle.number_text.specs.Blocks.{block_item}
use Rattle.text_items.proofs.Turns.{turn_more, turn_fails, turns_done}
use Rattle.table_check.proofs.tables.block_items.Goals as goal

pub returns-in_err-block_item : goal.returns-in_err-block_item
returns-in_err-block_item c =
    let item = block_item MAX_LARGE_ORDER in
    let p = err_from_is_err_and c.from_residual.result c.from_residual.ensures.1 in
    rw (p.1, p.2) (turn_fails item c.in_err-block_item.field-0.0 c.loop.blocks.items c.args.count c.loop.counter c.loop.lines
    (in_turn item c.args.count c.args.lines.now) c.loop-test.true c.in_err-block_item.ensures c.loop.invariant)

pub loop-preserved : goal.loop-preserved
loop-preserved c =
    let item = block_item MAX_LARGE_ORDER in
    rw c.in_ok-push.ensures.items (turn_more item c.loop.blocks.items c.args.count c.loop.counter c.loop.lines c.in_ok-block_item.field-0
    c.block_item.new.lines (in_turn item c.args.count c.args.lines.now) c.loop-test.true c.in_ok-block_item.ensures c.loop.invariant)

pub returns : goal.returns
returns c =
    let item = block_item MAX_LARGE_ORDER in
    turns_done item c.loop.blocks.items c.args.count c.loop.counter c.loop.lines
    (in_turn item c.args.count c.args.lines.now) c.loop-test.false c.loop.invariant
