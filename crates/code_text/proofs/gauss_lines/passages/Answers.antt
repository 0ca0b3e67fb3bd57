use Rattle.std.proofs.Common.{◌≡◌, ◌++◌, ◌∷◌, [], List, Some, None, Ok, Err, ap, sym, ◌∙◌}
use Rattle.text_lines.specs.Lines.{NumberedLine}
use Rattle.text_items.specs.declared.fault.TextFault.TheVariants.{Malformed}
use Rattle.text_items.specs.Reading.{each_token}
use Rattle.text_items.proofs.Values.{value_more, value_fails, values_done}
use Rattle.code_text.specs.declared.gauss_lines.GaussPassage.{GaussPassage}
use Rattle.code_text.specs.GaussLines.{passage_of}
use Rattle.code_text.proofs.gauss_lines.passages.Goals as goal

pub returns-in_default-passage_of : goal.returns-in_default-passage_of
returns-in_default-passage_of c =
    let line = c.args.line.now in
    let is = ap (λ (l : NumberedLine). l.tokens) c.in-Some.ensures.token in
    let none : passage_of c.in-Some.token.now ≡ None = sym c.in_default-passage_of.ensures in
    value_fails passage_of (λ (found : List GaussPassage). c.loop-token.found.items ≡ found) c.in-Some.token.now c.loop-token.line.tokens
    c.next_token.new.self.tokens line.number (each_token passage_of line.number line.tokens) is none c.loop-token.invariant
    ∙ ap (λ n. Err (Malformed n)) (sym c.number-at.ensures)

pub loop-token-preserved : goal.loop-token-preserved
loop-token-preserved c =
    let line = c.args.line.now in
    let p = c.in-Some-passage_of.passage in
    let is = ap (λ (l : NumberedLine). l.tokens) c.in-Some.ensures.token in
    let some : passage_of c.in-Some.token.now ≡ Some p = sym c.in-Some-passage_of.ensures in
    rw c.in_ok-push.ensures.items (value_more passage_of (λ (found : List GaussPassage). c.loop-token.found.items ≡ found)
    (λ (found : List GaussPassage). c.loop-token.found.items ++ p ∷ [] ≡ found) c.in-Some.token.now c.loop-token.line.tokens
    c.next_token.new.self.tokens p line.number (each_token passage_of line.number line.tokens) is some
    (λ values kept. ap (λ (vs : List GaussPassage). vs ++ p ∷ []) kept) c.loop-token.invariant)

pub returns : goal.returns
returns c =
    let line = c.args.line.now in
    values_done passage_of (λ (found : List GaussPassage). c.loop-token.found.items ≡ found) c.loop-token.line.tokens line.number
    (each_token passage_of line.number line.tokens) c.in_default.ensures.none c.loop-token.invariant
    ∙ ap (λ (vs : List GaussPassage). Ok vs) (sym c.loop-token.invariant.kept)
