use Rattle.std.proofs.Common.{◌-◌, sym, ◌∙◌}
use Rattle.std.proofs.lemmas.Result.{err_from_is_err_and}
use Rattle.text_items.specs.declared.quandles.TheConstants.{MAX_QUANDLES}
use Rattle.number_text.specs.Blocks.{listed_blocks}
use Rattle.number_text.proofs.BlockTurns.{block_more, block_fails, blocks_end, blocks_over}
use Rattle.number_text.proofs.blocks.listed_blocks.Goals as goal

pub returns-then-not-begins : goal.returns-then-not-begins
returns-then-not-begins c =
    blocks_end c.args.most c.loop.blocks.items (MAX_QUANDLES - c.loop.counter) c.loop.lines (listed_blocks c.args.most MAX_QUANDLES c.args.lines.now)
    (sym c.begins.ensures ∙ c.if-not-begins.true) c.loop.invariant

pub returns-in_err-block_item : goal.returns-in_err-block_item
returns-in_err-block_item c =
    let p = err_from_is_err_and c.from_residual.result c.from_residual.ensures.1 in
    rw (p.1, p.2) (block_fails c.args.most c.in_err-block_item.field-0.0 c.loop.blocks.items MAX_QUANDLES c.loop.counter c.loop.lines
    (listed_blocks c.args.most MAX_QUANDLES c.args.lines.now) c.loop-test.true (sym c.begins.ensures ∙ c.if-not-begins.false)
    c.in_err-block_item.ensures c.loop.invariant)

pub loop-preserved : goal.loop-preserved
loop-preserved c =
    rw c.in_ok-push.ensures.items (block_more c.args.most c.loop.blocks.items MAX_QUANDLES c.loop.counter c.loop.lines
    c.in_ok-block_item.field-0 c.block_item.new.lines (listed_blocks c.args.most MAX_QUANDLES c.args.lines.now) c.loop-test.true
    (sym c.begins.ensures ∙ c.if-not-begins.false) c.in_ok-block_item.ensures c.loop.invariant)

pub returns-then-begins : goal.returns-then-begins
returns-then-begins c =
    let total = blocks_over c.args.most c.loop.blocks.items MAX_QUANDLES c.loop.counter c.loop.lines
    (listed_blocks c.args.most MAX_QUANDLES c.args.lines.now) c.loop-test.false
    (sym c.begins-2.ensures ∙ c.if-begins.true) c.loop.invariant in
    rw total c.surplus_block.ensures

pub returns : goal.returns
returns c =
    blocks_end c.args.most c.loop.blocks.items (MAX_QUANDLES - c.loop.counter) c.loop.lines (listed_blocks c.args.most MAX_QUANDLES c.args.lines.now)
    (sym c.begins-2.ensures ∙ c.if-begins.false) c.loop.invariant
