use Rattle.std.proofs.Common.{◌≡◌, ◌++◌, List, ℕ, ap, ◌∙◌}
use Rattle.std.proofs.lemmas.Result.{err_from_is_err_and}
use Rattle.text_items.specs.Quandles.{table_rows}
use Rattle.text_items.proofs.TableLines.{row_more, row_fails, rows_done}
use Rattle.text_items.proofs.rows.table_rows.Goals as goal

pub returns-in_err-row : goal.returns-in_err-row
returns-in_err-row c =
    let p = err_from_is_err_and c.from_residual.result c.from_residual.ensures.1 in
    rw (p.1, p.2) (row_fails c.in_err-row.field-0.0 c.loop.entries.items c.args.order c.args.bound c.args.count c.loop.counter c.loop.lines
    (table_rows c.args.order c.args.bound c.args.count c.args.lines.now) c.loop-test.true c.in_err-row.ensures c.loop.invariant)

pub loop-preserved : goal.loop-preserved
loop-preserved c =
    let row = c.in_ok-row.row.items in
    let before = c.loop.entries.items in
    let appended : c.extend_from_slice.new.self.items ≡ before ++ row =
    c.in_ok-extend_from_slice.ensures.items ∙ ap (λ (xs : List ℕ). before ++ xs) c.as_slice.ensures.value in
    rw appended (row_more before c.args.order c.args.bound c.args.count c.loop.counter c.loop.lines row c.table_row.new.lines
    (table_rows c.args.order c.args.bound c.args.count c.args.lines.now) c.loop-test.true c.in_ok-row.ensures c.loop.invariant)

pub returns : goal.returns
returns c = rows_done c.loop.entries.items c.args.order c.args.bound c.args.count c.loop.counter c.loop.lines
    (table_rows c.args.order c.args.bound c.args.count c.args.lines.now) c.loop-test.false c.loop.invariant
