use Rattle.std.proofs.Common.{◌+◌, ◌/◌, ◌%◌, ◌++◌, ◌∷◌, [], ◌∙◌, ℕ, List, sym, ap, append_assoc, arith}
use Rattle.std.proofs.lemmas.Fmt.{decimal_digit}
use Rattle.knot_text.proofs.SpelledNumbers.{two_spelled, three_spelled}
use Rattle.knot_text.proofs.spelled_colours.spell.Goals as goal

pub returns-then-number-lt10-clause-bytes : goal.returns-then-number-lt10-clause-bytes
returns-then-number-lt10-clause-bytes c =
    c.push.ensures.items ∙ ap (λ (digits : List ℕ). c.args.line.now.items ++ digits) (sym (decimal_digit c.args.number c.if-number-lt10.true))

pub returns-then-number-lt100-clause-bytes : goal.returns-then-number-lt100-clause-bytes
returns-then-number-lt100-clause-bytes c =
    let n = c.args.number in
    let line = c.args.line.now.items in
    c.push-then-number-lt100-2.ensures.items
    ∙ (ap (λ (front : List ℕ). front ++ (48 + n % 10) ∷ []) c.push-then-number-lt100.ensures.items
    ∙ (append_assoc line ((48 + n / 10) ∷ []) ((48 + n % 10) ∷ [])
    ∙ ap (λ (digits : List ℕ). line ++ digits) (sym (two_spelled n (omega (arith, c.if-number-lt10.false)) c.if-number-lt100.true))))

pub returns-else-number-lt100-clause-bytes : goal.returns-else-number-lt100-clause-bytes
returns-else-number-lt100-clause-bytes c =
    let n = c.args.number in
    let line = c.args.line.now.items in
    let hundreds = (48 + n / 100) ∷ [] in
    let tens = (48 + n / 10 % 10) ∷ [] in
    let units = (48 + n % 10) ∷ [] in
    c.push-else-number-lt100-3.ensures.items
    ∙ (ap (λ (front : List ℕ). front ++ units) (c.push-else-number-lt100-2.ensures.items
    ∙ (ap (λ (front : List ℕ). front ++ tens) c.push-else-number-lt100.ensures.items ∙ append_assoc line hundreds tens))
    ∙ (append_assoc line (hundreds ++ tens) units
    ∙ ap (λ (digits : List ℕ). line ++ digits)
    (sym (three_spelled n (omega (arith, c.if-number-lt100.false)) (omega (arith, c.ranges.number.fits))))))
