use Rattle.std.proofs.Common.{◌++◌, ◌∙◌, List, ℕ, ap, subst, codes}
use Rattle.std.specs.Fmt.{decimal}
use Rattle.text_lines.specs.Appended.{AppendsPart}
use Rattle.text_lines.proofs.Parts.{on_err, part_ahead, last_behind}
use Rattle.knot_text.proofs.printed.push_table.Goals as goal

pub returns-in_err-push_counted-clause-part : goal.returns-in_err-push_counted-clause-part
returns-in_err-push_counted-clause-part c =
    let line : ℕ → List ℕ = λ n. codes " table " ++ (decimal n ++ codes "\n") in
    let stands : ℕ → Type 0 = λ n. AppendsPart c.args.out.now.items c.push_counted.new.out.items (line n) in
    let part = subst stands (c.from.ensures ∙ c.order.ensures.order) c.in_err-push_counted.ensures.part in
    on_err c.from_residual.result _ (part_ahead _ _ (line c.args.quandle.now.order) _ part)

pub returns-clause-part : goal.returns-clause-part
returns-clause-part c =
    let line : ℕ → List ℕ = λ n. codes " table " ++ (decimal n ++ codes "\n") in
    let order = ap (λ (n : ℕ). c.args.out.now.items ++ line n) (c.from.ensures ∙ c.order.ensures.order) in
    last_behind c.push_rows.result _ _ _ (line c.args.quandle.now.order) _ (c.in_ok-push_counted.ensures.text ∙ order) c.push_rows.ensures.part
