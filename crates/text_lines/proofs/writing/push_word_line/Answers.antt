use Rattle.std.proofs.Common.{◌++◌, ◌∙◌, rules, ap, append_assoc, codes, arith, List, ℕ}
use Rattle.std.specs.List.{flat_map}
use Rattle.std.specs.Fmt.{decimal}
use Rattle.std.proofs.lemmas.Result.{IfOk-equal}
use Rattle.text_lines.specs.Spelled.{spaced}
use Rattle.text_lines.proofs.LineTexts.{spaced_numbers, word_line}
use Rattle.text_lines.proofs.Parts.{on_err, part_ahead, part_behind, last_bytes}
use Rattle.text_lines.proofs.writing.push_word_line.Goals as goal

pub returns-clause-text : goal.returns-clause-text
returns-clause-text c = search (rules, IfOk-equal, append_assoc, spaced_numbers)

pub returns-in_err-push_spaced-clause-part : goal.returns-in_err-push_spaced-clause-part
returns-in_err-push_spaced-clause-part c =
    let part = part_behind _ _ _ c.args.word.now _ c.in_ok-extend_from_slice.ensures.items c.in_err-push_spaced.ensures.part in
    on_err c.from_residual-in_err-push_spaced.result _ (rw (← word_line c.args.word.now c.args.numbers.now) (part_ahead _ _ _ (codes "\n") part))

pub returns-clause-part : goal.returns-clause-part
returns-clause-part c =
    let numbers = flat_map (λ n. spaced (decimal n)) c.args.numbers.now in
    let word = ap (λ (s : List ℕ). s ++ numbers) c.in_ok-extend_from_slice.ensures.items in
    let before = c.in_ok-push_spaced.ensures.text ∙ word ∙ append_assoc c.args.out.now.items c.args.word.now numbers in
    let ends = c.extend_from_slice-2.ensures.items in
    rw (← word_line c.args.word.now c.args.numbers.now) (last_bytes c.extend_from_slice-2.result _ _ _ _ (codes "\n") before ends (omega arith))
