-- What holds of the diagrams of an input, and has a text, is a decision on the input; and what is decided or accepted is true.
use Rattle.std.proofs.Common.{◌≡◌, ◌++◌, ℕ, List, Bool, true, false, Option, Some, None, Ok, codes, refl, sym, subst, ◌∙◌, if◌then◌else◌}
use Rattle.grid_core.specs.Diagram.{Diagram}
use Rattle.grid_moves.specs.Joining.{Equivalent}
use Rattle.quandle_core.specs.declared.operations.TheConstants.{MAX_LARGE_ORDER}
use Rattle.quandle_core.specs.Quandle.{Table}
use Rattle.text_lines.specs.Lines.{are_whole_lines, text_of}
use Rattle.verdict_core.specs.declared.problem.ProblemText.{ProblemText}
use Rattle.verdict_core.specs.declared.verdict.Verdict.{Verdict}
use Rattle.verdict_core.specs.declared.verdict.Verdict.TheVariants.{Equal, Different, UnknownBudget, UnknownExhausted}
use Rattle.verdict_core.specs.Diagrams.{grid_of, column_count}
use Rattle.verdict_core.specs.Evidence as verdict
use Rattle.quandle_core.proofs.Named.{named_within}
use Rattle.verdict_text.specs.declared.verdicts.Version.{Version}
use Rattle.verdict_text.specs.declared.verdicts.Version.TheVariants.{Plain, Tidy}
use Rattle.verdict_text.specs.Problems.{problem_of}
use Rattle.knot_text.specs.Printed.{version_text, HasVerdictText, HasVersionText}
use Rattle.knot_text.proofs.Steady.{ok_is}
use Rattle.knot_text.proofs.ShapesSay.{check_in_says}
use Rattle.colour_numbers.specs.Numbers.{IsCocycleOrNone}
use Rattle.evidence_core.specs.declared.blocks.LargeWeighing.{LargeWeighing}
use Rattle.evidence_core.specs.declared.blocks.LargeWeighing.TheVariants.{Strands, Regions}
use Rattle.evidence_core.specs.declared.evidence.Evidence.{Evidence}
use Rattle.evidence_core.specs.declared.evidence.Evidence.TheVariants.{Numbers, Linking}
use Rattle.number_text.specs.declared.said.Said.{Said}
use Rattle.number_text.specs.declared.said.Said.TheVariants as said
use Rattle.number_text.specs.Said.{said_of}
use Rattle.certificates.specs.Printed.{third_text, HasPerhapsText, HasEvidenceText}
use Rattle.certificates.specs.Said.{said_text}
use Rattle.certificates.proofs.Earlier.{read_so, was_read_so}
use Rattle.certificates.proofs.EvidenceBehind.{evidence_behind, evidence_behind_feed}
use Rattle.number_check.specs.EvidenceHolds as numbers
use Rattle.number_check.proofs.Rulings.{numbers_apart}
use Rattle.evidence_core.proofs.LinksOfGrids.{linking_apart}
use Rattle.check_job.specs.CertificateTruth.{IsTrueSaid}
use Rattle.verdict_laws.specs.VerdictDecision.{put_behind, IsByWrittenQuandle, IsDecisionByVerdict}
use Rattle.verdict_laws.proofs.HeldVerdicts.{true_of}
use Rattle.certificate_check.specs.Decision.{IsFindingOf, IsAccepted, IsDecision}
use Rattle.certificate_check.proofs.BlocksSay.{HasBlock, said_block}

-- ---- evidence tells apart

cocycle_or_none : (t : Table) (o : Option LargeWeighing) → HasPerhapsText t o → IsCocycleOrNone o
cocycle_or_none t None has = tt
cocycle_or_none t (Some (Strands w)) has = has.cocycle
cocycle_or_none t (Some (Regions s)) has = has.cocycle

held_apart : (d e : Diagram) (evidence : Evidence) → HasBlock evidence → numbers.EvidenceHolds d e evidence → Equivalent d e → ⊥
held_apart d e (Numbers b one two) has holds =
    numbers_apart d e b one two (named_within MAX_LARGE_ORDER b.listed.name b.listed.table has.listed.names)
    (cocycle_or_none b.listed.table b.cocycle has.cocycle) holds
held_apart d e (Linking one two) has holds = linking_apart d e one two holds

block_of : (evidence : Evidence) → HasEvidenceText evidence → HasBlock evidence
block_of (Numbers b one two) has = has.0
block_of (Linking one two) has = tt

-- ---- and is read behind its problem

by_lines : (bytes : List ℕ) (p : ProblemText) (evidence : Evidence) (t : Bool) → are_whole_lines bytes ≡ t → problem_of bytes ≡ Ok p → HasEvidenceText evidence
    → said_of (if t then bytes ++ third_text evidence else bytes ++ (codes "\n" ++ third_text evidence)) ≡ Ok (p, said.Evidence evidence)
by_lines bytes p evidence true whole is text = evidence_behind bytes p evidence whole is text
by_lines bytes p evidence false lacks is text = evidence_behind_feed bytes p evidence lacks is text

held_evidence : (bytes : List ℕ) (p : ProblemText) (evidence : Evidence) → problem_of bytes ≡ Ok p
    → numbers.EvidenceHolds (grid_of p.first) (grid_of p.second) evidence → HasEvidenceText evidence → IsDecision bytes (third_text evidence)
held_evidence bytes p evidence read holds text = record {
  problem = p;
  read = read;
  statement = said.Evidence evidence;
  is = refl;
  holds = holds;
  is_true = held_apart (grid_of p.first) (grid_of p.second) evidence (block_of evidence text) holds;
  accepted = λ within. record { read = by_lines bytes p evidence (are_whole_lines bytes) refl read text; rules = holds };
}

-- ---- what holds is a decision

pub decision_by_verdict : (bytes text : List ℕ) → IsDecisionByVerdict bytes text → IsDecision bytes text
decision_by_verdict bytes text d = record {
  problem = d.problem;
  read = d.read;
  statement = said.Verdict d.verdict;
  is = d.is;
  holds = d.holds;
  is_true = d.is_true;
  accepted = λ within.
      let accepted = d.accepted within in
      record { read = read_so (put_behind bytes text) d.problem d.verdict accepted.read; rules = accepted.rules };
}

-- by the law that a verdict that holds is a decision
pub held_decision : ((bytes : List ℕ) (p : ProblemText) (v : Verdict) → problem_of bytes ≡ Ok p → verdict.VerdictHolds (grid_of p.first) (grid_of p.second) v
    → IsByWrittenQuandle v → verdict.IsTidyVerdict v → IsDecisionByVerdict bytes (version_text Tidy v))
    → (bytes : List ℕ) (p : ProblemText) (x : Said) → problem_of bytes ≡ Ok p → IsFindingOf p x → IsDecision bytes (said_text x)
held_decision verdicts bytes p (said.Verdict v) read finding =
    decision_by_verdict bytes (version_text Tidy v) (verdicts bytes p v read finding.holds finding.written finding.tidy)
held_decision verdicts bytes p (said.Evidence x) read finding = held_evidence bytes p x read finding.holds finding.written

-- ---- what was written, or accepted, is true

pub written_true : (bytes text : List ℕ) (p : ProblemText) (decision : IsDecision bytes text) → problem_of bytes ≡ Ok p → IsTrueSaid p decision.statement
written_true bytes text p decision is =
    subst (λ (q : ProblemText). IsTrueSaid q decision.statement) (ok_is decision.problem p (sym decision.read ∙ is)) decision.is_true

-- the quandle of a verdict that was read has a text
of_version : (version : Version) (one two : ℕ) (v : Verdict) → HasVersionText version one two v → HasVerdictText one two v
of_version Plain one two v has = has
of_version Tidy one two v has = has.0

by_quandle : (one two : ℕ) (v : Verdict) → HasVerdictText one two v → IsByWrittenQuandle v
by_quandle one two (Equal moves) has = tt
by_quandle one two (Different listed first second) has = has.0
by_quandle one two (UnknownBudget budget) has = tt
by_quandle one two (UnknownExhausted cap admitted) has = tt

pub accepted_true : (bytes : List ℕ) (p : ProblemText) (x : Said) → IsAccepted bytes p x → IsTrueSaid p x
accepted_true bytes p (said.Verdict v) accepted =
    let text = (check_in_says (text_of bytes)).of (p, v) (was_read_so bytes p v accepted.read) in
    let one = column_count p.first in
    let two = column_count p.second in
    let version : Version = text.2.0 in
    true_of (grid_of p.first) (grid_of p.second) v (by_quandle one two v (of_version version one two v text.2.1)) accepted.rules
accepted_true bytes p (said.Evidence evidence) accepted =
    held_apart (grid_of p.first) (grid_of p.second) evidence (said_block bytes p evidence accepted.read) accepted.rules
