use Rattle.std.proofs.lemmas.Result.{err_from_is_err_and}
use Rattle.std.proofs.Common.{ap, ◌∙◌}
use Rattle.evidence_core.specs.declared.blocks.Block.{Block}
use Rattle.number_text.specs.EvidenceItems.{count_of}
use Rattle.table_check.specs.Tables.{counts_item}
use Rattle.table_check.proofs.EachBlock.{each_more, each_fails, each_done}
use Rattle.table_check.proofs.class_items.counts_item.Goals as goal

pub returns-in_err-count_item : goal.returns-in_err-count_item
returns-in_err-count_item c =
    let p = err_from_is_err_and c.from_residual.result c.from_residual.ensures.1 in
    rw (p.1, p.2) (each_fails c.in_err-count_item.field-0.0 c.loop-block.counts.items c.args.blocks.now c.loop-block.block-index _ c.count_of.result
    c.loop-block.lines (counts_item c.args.blocks.now c.args.lines.now) c.loop-block-test.true
    (c.count_of.ensures ∙ ap (λ (b : Block). count_of b.cocycle) c.block-item.is) c.in_err-count_item.ensures
    c.loop-block.invariant)

pub loop-block-preserved : goal.loop-block-preserved
loop-block-preserved c =
    rw c.in_ok-push.ensures.items (each_more c.loop-block.counts.items c.args.blocks.now c.loop-block.block-index _ c.count_of.result
    c.loop-block.lines c.in_ok-count_item.field-0 c.count_item.new.lines (counts_item c.args.blocks.now c.args.lines.now) c.loop-block-test.true
    (c.count_of.ensures ∙ ap (λ (b : Block). count_of b.cocycle) c.block-item.is) c.in_ok-count_item.ensures c.loop-block.invariant)

pub returns : goal.returns
returns c =
    each_done c.loop-block.counts.items c.args.blocks.now c.loop-block.block-index c.loop-block.lines
    (counts_item c.args.blocks.now c.args.lines.now) c.loop-block-test.false c.loop-block.invariant
