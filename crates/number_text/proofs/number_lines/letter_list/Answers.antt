use Rattle.std.proofs.Common.{◌≡◌, ◌∷◌, [], ◌++◌, ℤ, List, Some, None, Err, Ok, ap, ap₂, sym, rules, to_z, of_z, w64, ◌∙◌}
use Rattle.text_lines.specs.Lines.{NumberedLine}
use Rattle.text_items.specs.Braids.{letter_of, letters}
use Rattle.text_items.specs.declared.fault.TextFault.TheVariants.{Malformed}
use Rattle.text_items.proofs.Values.{value_more, value_fails, values_done}
use Rattle.number_text.proofs.number_lines.letter_list.Goals as goal

pub returns-in_default-letter : goal.returns-in_default-letter
returns-in_default-letter c =
    let line = c.args.line.now in
    let is = ap (λ (l : NumberedLine). l.tokens) c.in-Some.ensures.token in
    let number : letter_of c.in-Some.token.now ≡ None = sym c.in_default-letter.ensures in
    value_fails letter_of (λ (values : List ℤ). c.loop-token.list.items ≡ values) c.in-Some.token.now c.loop-token.line.tokens
    c.next_token.new.self.tokens line.number (letters line) is number c.loop-token.invariant
    ∙ ap (λ n. Err (Malformed n)) (sym c.number-at.ensures)

pub loop-token-preserved : goal.loop-token-preserved
loop-token-preserved c =
    let line = c.args.line.now in
    let v = c.in-Some-letter.value in
    let old = c.loop-token.list.items in
    let is = ap (λ (l : NumberedLine). l.tokens) c.in-Some.ensures.token in
    let number : letter_of c.in-Some.token.now ≡ Some v = sym c.in-Some-letter.ensures in
    let cut : to_z w64 (of_z w64 v) ≡ v = search rules in
    value_more letter_of (λ (values : List ℤ). old ≡ values) (λ (values : List ℤ). c.push.new.self.items ≡ values) c.in-Some.token.now
    c.loop-token.line.tokens c.next_token.new.self.tokens v line.number (letters line) is number
    (λ values so_far. c.in_ok-push.ensures.items ∙ ap₂ (λ (xs : List ℤ) (z : ℤ). xs ++ z ∷ []) so_far cut) c.loop-token.invariant

pub returns : goal.returns
returns c =
    let line = c.args.line.now in
    values_done letter_of (λ (values : List ℤ). c.loop-token.list.items ≡ values) c.loop-token.line.tokens line.number (letters line)
    c.in_default.ensures.none c.loop-token.invariant
    ∙ ap (λ (values : List ℤ). Ok values) (sym c.loop-token.invariant.kept)
