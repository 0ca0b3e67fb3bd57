use Rattle.std.proofs.Common.{◌++◌, ◌∙◌, List, ℕ, ap, append_assoc, codes, arith}
use Rattle.text_lines.proofs.Parts.{on_err, part_ahead, part_behind, last_bytes}
use Rattle.knot_text.proofs.LetterTexts.{spelled}
use Rattle.knot_text.proofs.letters.push_letter_line.Goals as goal

pub returns-in_err-push_letters-clause-part : goal.returns-in_err-push_letters-clause-part
returns-in_err-push_letters-clause-part c =
    let part = part_behind _ _ _ c.args.word.now _ c.in_ok-extend_from_slice.ensures.items c.in_err-push_letters.ensures.part in
    on_err c.from_residual-in_err-push_letters.result _ (part_ahead _ _ _ (codes "\n") part)

pub returns-clause-part : goal.returns-clause-part
returns-clause-part c =
    let letters = spelled c.args.letters.now in
    let word = ap (λ (s : List ℕ). s ++ letters) c.in_ok-extend_from_slice.ensures.items in
    let before = c.in_ok-push_letters.ensures.text ∙ word ∙ append_assoc c.args.out.now.items c.args.word.now letters in
    last_bytes c.extend_from_slice-2.result _ _ _ (c.args.word.now ++ letters) (codes "\n") before c.extend_from_slice-2.ensures.items (omega arith)
