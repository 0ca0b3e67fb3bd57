-- A problem is read once, and then what stands behind it.
use Rattle.std.proofs.Common.{◌≡◌, true, false, Result, Ok, Err, refl}
use Rattle.text_lines.specs.Lines.{Text}
use Rattle.text_items.specs.declared.fault.TextFault.{TextFault}
use Rattle.text_items.specs.Reading.{◌>>=◌, text_end}
use Rattle.verdict_core.specs.Diagrams.{column_count}
use Rattle.verdict_core.specs.declared.problem.ProblemText.{ProblemText}
use Rattle.verdict_core.specs.declared.verdict.Verdict.{Verdict}
use Rattle.verdict_text.specs.Verdicts.{verdict_item}
use Rattle.verdict_text.specs.Problems.{problem_item, check_in}
use Rattle.number_text.specs.declared.said.Said.TheVariants as said
use Rattle.number_text.specs.Said.{starts_evidence, evidence_in, evidence_after, verdict_after, with_verdict, said_in}

-- a text is read as a fault of its problem says
pub fails : (text : Text) (e : TextFault) → problem_item text ≡ Err e → said_in text ≡ Err e
unfolding check_in
fails text e is = rw is refl

pub evidence : (text : Text) (p : ProblemText × Text) → problem_item text ≡ Ok p → starts_evidence p.1.lines ≡ true
    → said_in text ≡ evidence_after p.0 p.1
unfolding evidence_in evidence_after
evidence text p is starts = rw (is, starts) refl

pub earlier : (text : Text) (p : ProblemText × Text) → problem_item text ≡ Ok p → starts_evidence p.1.lines ≡ false
    → said_in text ≡ verdict_after p.0 p.1
unfolding check_in verdict_after
earlier text p is starts = rw (is, starts) (by (verdict_item (column_count p.0.first) (column_count p.0.second) p.1))
  where
    by : (v : Result (Verdict × Text) TextFault)
        → with_verdict (v >>= λ verdict. text_end verdict.1 >>= λ end. Ok (p.0, verdict.0))
        ≡ (v >>= λ verdict. text_end verdict.1 >>= λ end. Ok (p.0, said.Verdict verdict.0))
    by (Err e) = refl
    by (Ok x) = ends (text_end x.1)
      where
        ends : (t : Result (Unit {0}) TextFault) → with_verdict (t >>= λ end. Ok (p.0, x.0)) ≡ (t >>= λ end. Ok (p.0, said.Verdict x.0))
        ends (Err e) = refl
        ends (Ok u) = refl
