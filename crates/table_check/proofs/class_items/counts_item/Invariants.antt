use Rattle.std.proofs.Common.{◌≡◌, drop}
use Rattle.table_check.specs.Tables.{counts_item}
use Rattle.text_items.proofs.Turns.{with_front}
use Rattle.table_check.proofs.class_items.counts_item.Given as goal

abbrev pub invariant-loop-block : goal.invariant-loop-block
invariant-loop-block l = with_front l.counts.items (counts_item (drop l.block-index l.blocks) l.lines) ≡ counts_item l.blocks l.fn.lines
