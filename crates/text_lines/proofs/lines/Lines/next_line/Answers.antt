use Rattle.std.proofs.Common.{◌≡◌, ◌<◌, ◌+◌, length, List, ℕ, true, false, ◌∷◌, sym, ◌∙◌, ap, ap₂, subst, rules, arith}
use Rattle.text_lines.specs.Tokens.{tokens_of}
use Rattle.text_lines.specs.Lines.{NumberedLine, Text, text_from, trimmed, is_skipped}
use Rattle.text_lines.specs.Cut.{first_line}
use Rattle.text_lines.proofs.FirstLine.{behind_line_shorter}
use Rattle.text_lines.proofs.Steps.{ending_cut, text_skipped, lines_kept}
use Rattle.text_lines.proofs.lines.Lines.next_line.Goals as goal

pub returns-then-not-is_skipped-clause-line : goal.returns-then-not-is_skipped-clause-line
returns-then-not-is_skipped-clause-line c =
    let n = c.loop-self.self-inside.count in
    let bytes = c.loop-self.self-inside.rest.now in
    let some : 0 < length bytes = search rules in
    let same : c.trimmed-line.result.now ≡ trimmed (first_line bytes) = c.trimmed-line.ensures ∙ ap trimmed c.cut_line.ensures.line in
    let is : is_skipped (trimmed (first_line bytes)) ≡ false = sym (c.is_skipped.ensures ∙ ap is_skipped same) ∙ c.if-not-is_skipped.true in
    let line : c.new.result ≡ record { number = n + 1; tokens = tokens_of (trimmed (first_line bytes)) } =
    c.new.ensures ∙ ap (λ (xs : List ℕ). record { number = n + 1; tokens = tokens_of xs }) same in
    sym (ap (λ (t : Text). t.lines) c.loop-self.invariant.left) ∙ lines_kept n bytes some is
    ∙ ap₂ (λ (l : NumberedLine) (xs : List ℕ). l ∷ (text_from (n + 1) xs).lines) (sym line) (sym c.cut_line.ensures.rest)

pub returns-then-not-is_skipped-clause-ending : goal.returns-then-not-is_skipped-clause-ending
returns-then-not-is_skipped-clause-ending c =
    let n = c.loop-self.self-inside.count in
    let bytes = c.loop-self.self-inside.rest.now in
    let some : 0 < length bytes = search rules in
    ap (λ (xs : List ℕ). (text_from (n + 1) xs).ending) c.cut_line.ensures.rest ∙ sym (ending_cut n bytes some)
    ∙ ap (λ (t : Text). t.ending) c.loop-self.invariant.left

pub loop-self-preserved : goal.loop-self-preserved
loop-self-preserved c =
    let n = c.loop-self.self-inside.count in
    let bytes = c.loop-self.self-inside.rest.now in
    let some : 0 < length bytes = search rules in
    let same : c.trimmed-line.result.now ≡ trimmed (first_line bytes) = c.trimmed-line.ensures ∙ ap trimmed c.cut_line.ensures.line in
    let is : is_skipped (trimmed (first_line bytes)) ≡ true = sym (c.is_skipped.ensures ∙ ap is_skipped same) ∙ c.if-not-is_skipped.false in
    let behind = c.cut_line.ensures.rest in
    record {
      left = ap (text_from (n + 1)) behind ∙ sym (text_skipped n bytes some is) ∙ c.loop-self.invariant.left;
      small = subst (λ (xs : List ℕ). n + 1 + length xs < 9223372036854775808) (sym behind)
          (omega (arith, behind_line_shorter bytes some, c.loop-self.invariant.small));
    }
