use Rattle.std.proofs.Common.{◌≡◌, ℤ, List, [], ◌∷◌, ◌++◌, Some, None, Err, ap, sym, ◌∙◌, rules}
use Rattle.text_lines.specs.Lines.{NumberedLine}
use Rattle.text_items.specs.declared.fault.TextFault.TheVariants.{Malformed}
use Rattle.text_items.specs.Braids.{letter_of, letters, TellsLetters}
use Rattle.text_items.proofs.Values.{value_more, value_fails, values_done}
use Rattle.text_items.proofs.braids.letters.Goals as goal

pub returns-in_default-letter : goal.returns-in_default-letter
returns-in_default-letter c =
    let line = c.args.line.now in
    let is = ap (λ (l : NumberedLine). l.tokens) c.in-Some.ensures.token in
    let other : letter_of c.in-Some.token.now ≡ None = sym c.in_default-letter.ensures in
    value_fails letter_of (TellsLetters c.loop-token.kept) c.in-Some.token.now c.loop-token.line.tokens c.next_token.new.self.tokens line.number
    (letters line) is other c.loop-token.invariant
    ∙ ap (λ n. Err (Malformed n)) (sym c.number-at.ensures)

pub loop-token-preserved : goal.loop-token-preserved
loop-token-preserved c =
    let line = c.args.line.now in
    let is = ap (λ (l : NumberedLine). l.tokens) c.in-Some.ensures.token in
    let kept = c.loop-token.kept in
    let next = c.keep.new.kept in
    let step : (ls : List ℤ) → TellsLetters kept ls → TellsLetters next (ls ++ c.in-Some-letter.value ∷ []) = search rules in
    let value : letter_of c.in-Some.token.now ≡ Some c.in-Some-letter.value = sym c.in-Some-letter.ensures in
    value_more letter_of (TellsLetters kept)
    (TellsLetters next) c.in-Some.token.now c.loop-token.line.tokens c.next_token.new.self.tokens c.in-Some-letter.value line.number
    (letters line) is value step c.loop-token.invariant

pub returns : goal.returns
returns c =
    let line = c.args.line.now in
    record {
      values = c.loop-token.invariant.values;
      is = values_done letter_of (TellsLetters c.loop-token.kept) c.loop-token.line.tokens line.number
          (letters line) c.in_default.ensures.none c.loop-token.invariant;
      tells = c.loop-token.invariant.kept;
    }
