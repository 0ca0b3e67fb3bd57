use Rattle.std.proofs.Common.{◌≡◌, ◌∷◌, [], ◌++◌, ℕ, List, Some, None, Err, Ok, ap, sym, ◌∙◌}
use Rattle.text_lines.specs.Lines.{NumberedLine}
use Rattle.text_lines.specs.NumberTokens.{number_of}
use Rattle.text_items.specs.declared.fault.TextFault.TheVariants.{Malformed}
use Rattle.text_items.specs.NumberLists.{line_numbers}
use Rattle.text_items.proofs.Values.{value_more, value_fails, values_done}
use Rattle.text_items.proofs.number_lists.number_list.Goals as goal

pub returns-in_default-number : goal.returns-in_default-number
returns-in_default-number c =
    let line = c.args.line.now in
    let is = ap (λ (l : NumberedLine). l.tokens) c.in-Some.ensures.token in
    let number : number_of c.in-Some.token.now ≡ None = sym c.in_default-number.ensures in
    value_fails number_of (λ (values : List ℕ). c.loop-token.list.items ≡ values) c.in-Some.token.now c.loop-token.line.tokens
    c.next_token.new.self.tokens line.number (line_numbers line) is number c.loop-token.invariant
    ∙ ap (λ n. Err (Malformed n)) (sym c.number-at.ensures)

pub loop-token-preserved : goal.loop-token-preserved
loop-token-preserved c =
    let line = c.args.line.now in
    let v = c.in-Some-number.value in
    let old = c.loop-token.list.items in
    let is = ap (λ (l : NumberedLine). l.tokens) c.in-Some.ensures.token in
    let number : number_of c.in-Some.token.now ≡ Some v = sym c.in-Some-number.ensures in
    value_more number_of (λ (values : List ℕ). old ≡ values) (λ (values : List ℕ). c.push.new.self.items ≡ values) c.in-Some.token.now
    c.loop-token.line.tokens c.next_token.new.self.tokens v line.number (line_numbers line) is number
    (λ values so_far. c.in_ok-push.ensures.items ∙ ap (λ (xs : List ℕ). xs ++ v ∷ []) so_far) c.loop-token.invariant

pub returns : goal.returns
returns c =
    let line = c.args.line.now in
    values_done number_of (λ (values : List ℕ). c.loop-token.list.items ≡ values) c.loop-token.line.tokens line.number (line_numbers line)
    c.in_default.ensures.none c.loop-token.invariant
    ∙ ap (λ (values : List ℕ). Ok values) (sym c.loop-token.invariant.kept)
