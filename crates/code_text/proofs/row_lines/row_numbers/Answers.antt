use Rattle.std.proofs.Common.{◌≡◌, ◌++◌, ◌∷◌, [], ℕ, List, Some, None, Ok, Err, ap, sym, ◌∙◌}
use Rattle.std.specs.Prelude.{filter}
use Rattle.text_lines.specs.Lines.{NumberedLine}
use Rattle.text_lines.specs.NumberTokens.{number_of}
use Rattle.text_items.specs.declared.fault.TextFault.TheVariants.{Malformed}
use Rattle.text_items.proofs.Values.{value_more, value_fails, values_done}
use Rattle.code_text.specs.RowLines.{says_something, row_numbers}
use Rattle.code_text.proofs.RowsRead.{said_first}
use Rattle.code_text.proofs.row_lines.row_numbers.Goals as goal

pub returns-in_default-number : goal.returns-in_default-number
returns-in_default-number c =
    let line = c.args.line.now in
    let token = c.in-Some.token.now in
    let rest = c.next_token.new.self.tokens in
    let is = said_first c.loop-token.line.tokens rest token (ap (λ (l : NumberedLine). l.tokens) c.in-Some.ensures.token)
    (sym c.says_something.ensures ∙ c.if-says_something.true) in
    let none : number_of token ≡ None = sym c.in_default-number.ensures in
    value_fails number_of (λ (names : List ℕ). c.loop-token.names.items ≡ names) token (filter says_something c.loop-token.line.tokens)
    (filter says_something rest) line.number (row_numbers line) is none c.loop-token.invariant
    ∙ ap (λ n. Err (Malformed n)) (sym c.number-at.ensures)

pub loop-token-preserved-in-Continue-1 : goal.loop-token-preserved-in-Continue-1
loop-token-preserved-in-Continue-1 c =
    let line = c.args.line.now in
    let token = c.in-Some.token.now in
    let rest = c.next_token.new.self.tokens in
    let name = c.in-Some-number.name in
    let is = said_first c.loop-token.line.tokens rest token (ap (λ (l : NumberedLine). l.tokens) c.in-Some.ensures.token)
    (sym c.says_something.ensures ∙ c.if-says_something.true) in
    let some : number_of token ≡ Some name = sym c.in-Some-number.ensures in
    rw c.in_ok-push.ensures.items (value_more number_of (λ (names : List ℕ). c.loop-token.names.items ≡ names)
    (λ (names : List ℕ). c.loop-token.names.items ++ name ∷ [] ≡ names) token (filter says_something c.loop-token.line.tokens)
    (filter says_something rest) name line.number (row_numbers line) is some
    (λ values kept. ap (λ (vs : List ℕ). vs ++ name ∷ []) kept) c.loop-token.invariant)

pub returns : goal.returns
returns c =
    let line = c.args.line.now in
    values_done number_of (λ (names : List ℕ). c.loop-token.names.items ≡ names) (filter says_something c.loop-token.line.tokens) line.number
    (row_numbers line) (ap (filter says_something) c.in_default.ensures.none) c.loop-token.invariant
    ∙ ap (λ (vs : List ℕ). Ok vs) (sym c.loop-token.invariant.kept)
