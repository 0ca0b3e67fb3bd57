-- What a text is worth that a program has written behind its problem, which says something of the two diagrams: a verdict, or evidence by numbers.
use Rattle.std.specs.Prelude.{◌≡◌, ◌≤◌, ℕ, List, length, Ok}
use Rattle.grid_core.specs.declared.grid.TheConstants.{MAX_SIZE}
use Rattle.verdict_core.specs.declared.problem.ProblemText.{ProblemText}
use Rattle.verdict_core.specs.declared.verdict.Verdict.{Verdict}
use Rattle.verdict_core.specs.Diagrams.{grid_of}
use Rattle.verdict_core.specs.Evidence as verdict
use Rattle.verdict_text.specs.Problems.{problem_of}
use Rattle.evidence_core.specs.declared.evidence.Evidence.{Evidence}
use Rattle.evidence_core.specs.declared.evidence.Evidence.TheVariants.{Numbers, Linking}
use Rattle.cert_check.specs.Ruling as verdicts
use Rattle.cert_check.specs.declared.ruling.Ruling.TheVariants as verdict_ruling
use Rattle.number_check.specs.EvidenceHolds as numbers
use Rattle.number_check.specs.Ruling as evidence
use Rattle.evidence_core.specs.declared.cause.NumberRuling.TheVariants as evidence_ruling
use Rattle.number_text.specs.declared.said.Said.{Said}
use Rattle.number_text.specs.declared.said.Said.TheVariants as said
use Rattle.number_text.specs.Said.{said_of}
use Rattle.certificates.specs.Printed.{HasBlockText, HasEvidenceText}
use Rattle.certificates.specs.Said.{said_text}
use Rattle.check_job.specs.CertificateTruth.{IsTrueSaid}
use Rattle.knot_ports.specs.declared.limits.TheConstants.{MAX_CERTIFICATE}
use Rattle.verdict_laws.specs.VerdictDecision.{put_behind, IsByWrittenQuandle}

-- ---- what holds

-- what is said of the diagrams of a problem holds: the evidence of a verdict, or evidence by numbers
abbrev pub HoldsOf : ProblemText → Said → Type 0
HoldsOf p (said.Verdict v) = verdict.VerdictHolds (grid_of p.first) (grid_of p.second) v
HoldsOf p (said.Evidence x) = numbers.EvidenceHolds (grid_of p.first) (grid_of p.second) x

-- a verdict holds of the diagrams of a problem, its moves, if any, are a tidy list, and its quandle, if it is by one, has a text
pub record IsVerdictOf (p : ProblemText) (v : Verdict) : Type 0 where
  pub holds : verdict.VerdictHolds (grid_of p.first) (grid_of p.second) v
  pub written : IsByWrittenQuandle v
  pub tidy : verdict.IsTidyVerdict v

-- evidence by numbers holds of the diagrams of a problem, and has a text
pub record IsEvidenceOf (p : ProblemText) (x : Evidence) : Type 0 where
  pub holds : numbers.EvidenceHolds (grid_of p.first) (grid_of p.second) x
  pub written : HasEvidenceText x

-- what is said of the diagrams of a problem is one of both, whoever found it
abbrev pub IsFindingOf : ProblemText → Said → Type 0
IsFindingOf p (said.Verdict v) = IsVerdictOf p v
IsFindingOf p (said.Evidence x) = IsEvidenceOf p x

-- the quandle of evidence and its cocycle, if it is by these, have texts, and its seeds are not too many for a line
abbrev pub IsByWrittenBlock : Evidence → Type 0
IsByWrittenBlock (Numbers block one two) = HasBlockText block × (length one.seeds.items ≤ MAX_SIZE) × (length two.seeds.items ≤ MAX_SIZE)
IsByWrittenBlock (Linking one two) = Unit {0}

-- ---- what is written

-- the ruling on what is said of the diagrams of a problem is that it is accepted
abbrev pub RulesAccepted : ProblemText → Said → Type 0
RulesAccepted p (said.Verdict v) = verdicts.RulesOnVerdict (grid_of p.first) (grid_of p.second) v verdict_ruling.Accepted
RulesAccepted p (said.Evidence x) = evidence.RulesOnEvidence (grid_of p.first) (grid_of p.second) x evidence_ruling.Accepted

-- the bytes are read as a certificate of this problem in which this is said, and the ruling on it is that it is accepted
pub record IsAccepted (bytes : List ℕ) (problem : ProblemText) (x : Said) : Type 0 where
  pub read : said_of bytes ≡ Ok (problem, x)
  pub rules : RulesAccepted problem x

-- a verdict is not too long with its problem for a certificate; evidence by numbers may be of any length
abbrev pub IsWithinLimit : List ℕ → Said → Type 0
IsWithinLimit bytes (said.Verdict v) = length bytes ≤ MAX_CERTIFICATE
IsWithinLimit bytes (said.Evidence x) = Unit {0}

-- the bytes are a problem, and the text says of its diagrams what holds and is true; behind the problem it is accepted, a verdict if both
-- together are not too long
pub record IsDecision (bytes text : List ℕ) : Type 0 where
  pub problem : ProblemText
  pub read : problem_of bytes ≡ Ok problem
  pub statement : Said
  pub is : text ≡ said_text statement
  pub holds : HoldsOf problem statement
  pub is_true : IsTrueSaid problem statement
  pub accepted : IsWithinLimit (put_behind bytes text) statement → IsAccepted (put_behind bytes text) problem statement
