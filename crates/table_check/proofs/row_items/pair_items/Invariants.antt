use Rattle.std.proofs.Common.{◌≡◌, ◌-◌}
use Rattle.text_items.specs.Reading.{in_turn}
use Rattle.table_check.specs.Tables.{pair_item}
use Rattle.text_items.proofs.Turns.{with_front}
use Rattle.table_check.proofs.row_items.pair_items.Given as goal

abbrev pub invariant-loop : goal.invariant-loop
invariant-loop l = with_front l.pairs.items (in_turn (pair_item l.classes) (l.count - l.counter) l.lines)
    ≡ in_turn (pair_item l.classes) l.count l.fn.lines
