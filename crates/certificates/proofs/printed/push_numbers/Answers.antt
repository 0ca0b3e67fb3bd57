use Rattle.std.proofs.Common.{◌≡◌, ◌++◌, ◌∙◌, ℕ, List, OnOk, ap, subst}
use Rattle.text_lines.specs.Spelled.{lines_text}
use Rattle.certificates.specs.Printed.{perhaps_cocycle, counted_lines}
use Rattle.certificates.proofs.PartTexts.{numbers_text}
use Rattle.certificates.proofs.printed.push_numbers.Goals as goal

pub returns : goal.returns
returns c =
    let block = c.args.block.now in
    let one = c.args.first.now in
    let two = c.args.second.now in
    let cocycle = c.in_ok-push_perhaps.ensures ∙ ap (λ (s : List ℕ). s ++ lines_text (perhaps_cocycle block.cocycle)) c.in_ok-push_large.ensures.text in
    let first = c.in_ok-push_counts.ensures ∙ ap (λ (s : List ℕ). s ++ lines_text (counted_lines one)) cocycle in
    let whole = ap (λ (s : List ℕ). s ++ lines_text (counted_lines two)) first ∙ numbers_text block one two c.args.out.now.items in
    subst (λ (s : List ℕ). OnOk c.push_counts-2.result (c.push_counts-2.new.out.items ≡ s)) whole c.push_counts-2.ensures
