use Rattle.std.proofs.Common.{◌++◌, ◌∷◌, ◌∙◌, [], List, ℕ, ap, subst, codes, length}
use Rattle.std.specs.Fmt.{decimal}
use Rattle.text_lines.specs.Spelled.{line_text}
use Rattle.text_lines.specs.Appended.{AppendsPart}
use Rattle.text_lines.proofs.Parts.{on_err, part_ahead, last_behind}
use Rattle.knot_text.proofs.LineTexts.{counted_line}
use Rattle.knot_text.proofs.printed.push_list.Goals as goal

pub returns-in_err-push_counted-clause-part : goal.returns-in_err-push_counted-clause-part
returns-in_err-push_counted-clause-part c =
    let first = counted_line (codes "list") (length c.args.colourings.now) in
    let part = subst (λ (s : List ℕ). AppendsPart c.args.out.now.items c.push_counted.new.out.items s) first c.in_err-push_counted.ensures.part in
    on_err c.from_residual.result _ (part_ahead _ _ (line_text (codes "list" ∷ decimal (length c.args.colourings.now) ∷ [])) _ part)

pub returns-clause-part : goal.returns-clause-part
returns-clause-part c =
    let count = length c.args.colourings.now in
    let before = c.in_ok-push_counted.ensures.text ∙ ap (λ (s : List ℕ). c.args.out.now.items ++ s) (counted_line (codes "list") count) in
    last_behind c.push_colourings.result _ _ _ (line_text (codes "list" ∷ decimal count ∷ [])) _ before c.push_colourings.ensures.part
