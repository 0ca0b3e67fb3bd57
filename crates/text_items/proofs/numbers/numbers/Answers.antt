use Rattle.std.proofs.Common.{◌≡◌, Some, None, Err, ap, sym, ◌∙◌}
use Rattle.text_lines.specs.Lines.{NumberedLine}
use Rattle.text_lines.specs.NumberTokens.{number_of}
use Rattle.text_items.specs.declared.fault.TextFault.TheVariants.{Malformed}
use Rattle.text_items.specs.NumberLists.{line_numbers}
use Rattle.text_items.specs.Numbers.{Tells}
use Rattle.text_items.proofs.Values.{value_more, value_fails, values_done}
use Rattle.text_items.proofs.numbers.numbers.Goals as goal

pub returns-in_default-number : goal.returns-in_default-number
returns-in_default-number c =
    let line = c.args.line.now in
    let is = ap (λ (l : NumberedLine). l.tokens) c.in-Some.ensures.token in
    let number : number_of c.in-Some.token.now ≡ None = sym c.in_default-number.ensures in
    value_fails number_of (Tells c.loop-token.kept) c.in-Some.token.now c.loop-token.line.tokens c.next_token.new.self.tokens line.number
    (line_numbers line) is number c.loop-token.invariant
    ∙ ap (λ n. Err (Malformed n)) (sym c.number-at.ensures)

pub loop-token-preserved : goal.loop-token-preserved
loop-token-preserved c =
    let line = c.args.line.now in
    let is = ap (λ (l : NumberedLine). l.tokens) c.in-Some.ensures.token in
    let number : number_of c.in-Some.token.now ≡ Some c.in-Some-number.value = sym c.in-Some-number.ensures in
    value_more number_of (Tells c.loop-token.kept)
    (Tells c.keep.new.kept) c.in-Some.token.now c.loop-token.line.tokens c.next_token.new.self.tokens c.in-Some-number.value line.number
    (line_numbers line) is number c.keep.ensures c.loop-token.invariant

pub returns : goal.returns
returns c =
    let line = c.args.line.now in
    record {
      values = c.loop-token.invariant.values;
      is = values_done number_of (Tells c.loop-token.kept) c.loop-token.line.tokens line.number
          (line_numbers line) c.in_default.ensures.none c.loop-token.invariant;
      tells = c.loop-token.invariant.kept;
    }
