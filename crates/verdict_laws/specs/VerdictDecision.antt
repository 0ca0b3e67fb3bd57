-- What a verdict is worth that was written behind its problem.
use Rattle.std.specs.Prelude.{◌≡◌, ◌≤◌, if◌then◌else◌, ℕ, List, ◌++◌, Ok, codes, length}
use Rattle.text_lines.specs.Lines.{are_whole_lines}
use Rattle.verdict_core.specs.declared.problem.ProblemText.{ProblemText}
use Rattle.verdict_core.specs.declared.verdict.Verdict.{Verdict}
use Rattle.verdict_core.specs.declared.verdict.Verdict.TheVariants.{Equal, Different, UnknownBudget, UnknownExhausted}
use Rattle.verdict_core.specs.Diagrams.{grid_of}
use Rattle.verdict_core.specs.Evidence.{VerdictHolds, HasEvidence}
use Rattle.cert_check.specs.VerdictTruth.{IsTrueVerdict}
use Rattle.text_items.specs.declared.reading.TheConstants.{MAX_NUMBER}
use Rattle.verdict_text.specs.declared.verdicts.Version.TheVariants.{Tidy}
use Rattle.knot_text.specs.Printed.{version_text, HasQuandleText}
use Rattle.verdict_text.specs.Problems.{problem_of, check_of}
use Rattle.cert_check.specs.declared.ruling.Ruling.TheVariants.{Accepted}
use Rattle.cert_check.specs.Ruling.{RulesOnVerdict}
use Rattle.knot_ports.specs.declared.limits.TheConstants.{MAX_CERTIFICATE}

-- a text behind an input, with a line feed between where the last line of the input lacks one
abbrev pub put_behind : List ℕ → List ℕ → List ℕ
put_behind bytes text = if are_whole_lines bytes then bytes ++ text else bytes ++ (codes "\n" ++ text)

-- the bytes are read as a certificate of this problem and this verdict, and the ruling on the verdict is that it is accepted
pub record IsAcceptedVerdict (bytes : List ℕ) (problem : ProblemText) (verdict : Verdict) : Type 0 where
  pub read : check_of bytes ≡ Ok (problem, verdict)
  pub rules : RulesOnVerdict (grid_of problem.first) (grid_of problem.second) verdict Accepted

-- the bytes are a problem, and the text is a verdict on it that is true, with evidence that holds; behind the problem it is accepted,
-- if both together are not too long for a certificate
pub record IsDecisionByVerdict (bytes text : List ℕ) : Type 0 where
  pub problem : ProblemText
  pub read : problem_of bytes ≡ Ok problem
  pub verdict : Verdict
  pub is : text ≡ version_text Tidy verdict
  pub evidence : HasEvidence verdict
  pub holds : VerdictHolds (grid_of problem.first) (grid_of problem.second) verdict
  pub is_true : IsTrueVerdict problem verdict
  pub accepted : length (put_behind bytes text) ≤ MAX_CERTIFICATE → IsAcceptedVerdict (put_behind bytes text) problem verdict

-- the quandle of a verdict, if it is by one, has a text
abbrev pub IsByWrittenQuandle : Verdict → Type 0
IsByWrittenQuandle (Equal moves) = Unit {0}
IsByWrittenQuandle (Different listed one two) = HasQuandleText listed
IsByWrittenQuandle (UnknownBudget budget) = Unit {0}
IsByWrittenQuandle (UnknownExhausted cap admitted) = Unit {0}

-- the moves of a verdict, if any, are not too many for a text
abbrev pub HasFewMoves : Verdict → Type 0
HasFewMoves (Equal moves) = length moves ≤ MAX_NUMBER
HasFewMoves (Different listed one two) = Unit {0}
HasFewMoves (UnknownBudget budget) = Unit {0}
HasFewMoves (UnknownExhausted cap admitted) = Unit {0}
