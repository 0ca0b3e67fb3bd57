use Rattle.std.proofs.Common.{◌≡◌, ◌++◌, ℤ, pos, get_or, rules, subst, to_z, of_z, w32}
use Rattle.text_lines.specs.Spelled.{spaced}
use Rattle.text_lines.specs.Appended.{AppendsPart}
use Rattle.text_lines.proofs.Parts.{on_err}
use Rattle.knot_text.specs.Printed.{letter_token}
use Rattle.knot_text.proofs.LetterTexts.{letter_more, letter_part}
use Rattle.knot_text.proofs.letters.push_letters.Goals as goal

pub loop-letter-preserved : goal.loop-letter-preserved
loop-letter-preserved c =
    let letter = get_or c.args.letters.now c.loop-letter.letter-index (pos 0) in
    let same : to_z w32 (of_z w32 letter) ≡ letter = search rules in
    let stands : ℤ → Type 0 = λ l. c.push_spaced.new.out.items ≡ c.loop-letter.out.items ++ spaced (letter_token l) in
    letter_more c.args.letters.now c.loop-letter.letter-index (pos 0) _ _ _ c.loop-letter-test.true c.loop-letter.invariant
    (subst stands same c.in_ok-push_spaced.ensures.text)

pub returns-in_err-push_spaced-clause-part : goal.returns-in_err-push_spaced-clause-part
returns-in_err-push_spaced-clause-part c =
    let letter = get_or c.args.letters.now c.loop-letter.letter-index (pos 0) in
    let same : to_z w32 (of_z w32 letter) ≡ letter = search rules in
    let stands : ℤ → Type 0 = λ l. AppendsPart c.loop-letter.out.items c.push_spaced.new.out.items (spaced (letter_token l)) in
    on_err c.from_residual.result _
    (letter_part c.args.letters.now c.loop-letter.letter-index (pos 0) _ _ _ c.loop-letter-test.true c.loop-letter.invariant
    (subst stands same c.in_err-push_spaced.ensures.part))
