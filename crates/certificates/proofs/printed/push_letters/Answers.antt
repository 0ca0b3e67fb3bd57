use Rattle.std.proofs.Common.{◌≡◌, ◌++◌, ℤ, pos, get_or, rules, subst, to_z, of_z, w64}
use Rattle.text_lines.specs.Spelled.{spaced}
use Rattle.knot_text.specs.Printed.{letter_token}
use Rattle.knot_text.proofs.LetterTexts.{letter_more}
use Rattle.certificates.proofs.printed.push_letters.Goals as goal

pub loop-letter-preserved : goal.loop-letter-preserved
loop-letter-preserved c =
    let letter = get_or c.args.letters.now c.loop-letter.letter-index (pos 0) in
    let same : to_z w64 (of_z w64 letter) ≡ letter = search rules in
    let stands : ℤ → Type 0 = λ l. c.push_letter.new.out.items ≡ c.loop-letter.out.items ++ spaced (letter_token l) in
    letter_more c.args.letters.now c.loop-letter.letter-index (pos 0) _ _ _ c.loop-letter-test.true c.loop-letter.invariant
    (subst stands same c.in_ok-push_letter.ensures)
