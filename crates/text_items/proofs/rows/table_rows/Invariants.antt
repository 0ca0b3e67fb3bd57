use Rattle.std.proofs.Common.{◌≡◌, ◌-◌}
use Rattle.text_items.specs.Quandles.{table_rows}
use Rattle.text_items.proofs.Turns.{with_front}
use Rattle.text_items.proofs.rows.table_rows.Given as goal

abbrev pub invariant-loop : goal.invariant-loop
invariant-loop l = with_front l.entries.items (table_rows l.order l.bound (l.count - l.counter) l.lines) ≡ table_rows l.order l.bound l.count l.fn.lines
