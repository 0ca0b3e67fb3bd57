use Rattle.std.proofs.Common.{◌≡◌, ◌-◌}
use Rattle.text_items.specs.Reading.{in_turn}
use Rattle.quandle_core.specs.declared.operations.TheConstants.{MAX_LARGE_ORDER}
use Rattle.number_text.specs.Blocks.{block_item}
use Rattle.text_items.proofs.Turns.{with_front}
use Rattle.table_check.proofs.tables.block_items.Given as goal

abbrev pub invariant-loop : goal.invariant-loop
invariant-loop l = with_front l.blocks.items (in_turn (block_item MAX_LARGE_ORDER) (l.count - l.counter) l.lines)
    ≡ in_turn (block_item MAX_LARGE_ORDER) l.count l.fn.lines
