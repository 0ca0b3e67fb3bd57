use Rattle.std.proofs.Common.{◌≡◌, ◌-◌, ◌<◌}
use Rattle.std.specs.List.{All}
use Rattle.text_items.specs.Reading.{in_turn}
use Rattle.table_check.specs.Tables.{row_item}
use Rattle.text_items.proofs.Turns.{with_front}
use Rattle.table_check.proofs.row_items.row_items.Given as goal

abbrev pub invariant-loop : goal.invariant-loop
invariant-loop l = (with_front l.rows.items (in_turn (row_item l.classes) (l.count - l.counter) l.lines) ≡ in_turn (row_item l.classes) l.count l.fn.lines)
    × All (λ r. r.class < l.classes) l.rows.items
