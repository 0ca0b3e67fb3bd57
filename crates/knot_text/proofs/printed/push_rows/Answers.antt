use Rattle.std.proofs.Common.{◌++◌, ◌∙◌, List, ℕ, ap, subst, arith}
use Rattle.text_lines.specs.Appended.{AppendsPart}
use Rattle.text_lines.proofs.Parts.{on_err}
use Rattle.knot_text.proofs.LineTexts.{rows_more, rows_part, row_line}
use Rattle.knot_text.proofs.printed.push_rows.Goals as goal

pub loop-x-preserved : goal.loop-x-preserved
loop-x-preserved c =
    let row = row_line c.args.quandle.now c.loop-x.x c.as_slice.result.now (c.as_slice.ensures.value ∙ c.row_of.ensures) in
    let step = c.in_ok-push_number_line.ensures.text ∙ ap (λ (s : List ℕ). c.loop-x.out.items ++ s) row in
    rows_more c.args.quandle.now c.loop-x.x c.args.out.now.items c.loop-x.out.items c.push_number_line.new.out.items c.loop-x.invariant step

pub returns-in_err-push_number_line-clause-part : goal.returns-in_err-push_number_line-clause-part
returns-in_err-push_number_line-clause-part c =
    let row = row_line c.args.quandle.now c.loop-x.x c.as_slice.result.now (c.as_slice.ensures.value ∙ c.row_of.ensures) in
    let part = subst (λ (s : List ℕ). AppendsPart c.loop-x.out.items c.push_number_line.new.out.items s) row c.in_err-push_number_line.ensures.part in
    let order = c.order-x-end.ensures.order in
    on_err c.from_residual.result _
    (rows_part c.args.quandle.now c.loop-x.x c.args.out.now.items c.loop-x.out.items _ (omega (arith, order)) c.loop-x.invariant part)
