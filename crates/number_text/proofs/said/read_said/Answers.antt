use Rattle.std.proofs.Common.{◌≡◌, ◌∙◌, true, false, Ok, subst, sym, ap}
use Rattle.text_items.specs.Reading.{Gives}
use Rattle.text_lines.specs.Lines.{Text, text_of}
use Rattle.verdict_text.specs.Problems.{problem_item}
use Rattle.number_text.specs.Said.{starts_evidence}
use Rattle.number_text.proofs.Behind.{evidence, earlier}
use Rattle.number_text.proofs.said.read_said.Goals as goal

-- src/said.rt:77:1
pub returns-then-starts_evidence : goal.returns-then-starts_evidence
returns-then-starts_evidence c =
    let read : problem_item (text_of c.args.bytes.now) ≡ Ok (c.in_ok-problem.problem, c.problem_item.new.lines) =
    ap problem_item (sym c.new-lines.ensures) ∙ c.in_ok-problem.ensures in
    let starts : starts_evidence c.problem_item.new.lines.lines ≡ true =
    sym (ap (λ (t : Text). starts_evidence t.lines) c.again-ahead.ensures) ∙ sym c.starts_evidence.ensures ∙ c.if-starts_evidence.true in
    subst (λ r. Gives (λ p. p) c.evidence_after.result r) (sym (evidence (text_of c.args.bytes.now) (c.in_ok-problem.problem, c.problem_item.new.lines) read
    starts))
    c.evidence_after.ensures

-- src/said.rt:77:1
pub returns-else-starts_evidence : goal.returns-else-starts_evidence
returns-else-starts_evidence c =
    let read : problem_item (text_of c.args.bytes.now) ≡ Ok (c.in_ok-problem.problem, c.problem_item.new.lines) =
    ap problem_item (sym c.new-lines.ensures) ∙ c.in_ok-problem.ensures in
    let starts : starts_evidence c.problem_item.new.lines.lines ≡ false =
    sym (ap (λ (t : Text). starts_evidence t.lines) c.again-ahead.ensures) ∙ sym c.starts_evidence.ensures ∙ c.if-starts_evidence.false in
    subst (λ r. Gives (λ p. p) c.verdict_after.result r) (sym (earlier (text_of c.args.bytes.now) (c.in_ok-problem.problem, c.problem_item.new.lines) read
    starts))
    c.verdict_after.ensures
