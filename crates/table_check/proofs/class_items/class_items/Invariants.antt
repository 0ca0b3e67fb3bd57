use Rattle.std.proofs.Common.{◌≡◌, ◌-◌}
use Rattle.text_items.specs.Reading.{in_turn}
use Rattle.table_check.specs.Tables.{class_item}
use Rattle.text_items.proofs.Turns.{with_front}
use Rattle.table_check.proofs.class_items.class_items.Given as goal

abbrev pub invariant-loop : goal.invariant-loop
invariant-loop l = with_front l.classes.items (in_turn (class_item l.fn.blocks) (l.count - l.counter) l.lines)
    ≡ in_turn (class_item l.fn.blocks) l.count l.fn.lines
