-- What bytes are worth that were accepted.
use mathlib.Core.Logic.{inl, inr}
use Rattle.std.specs.Prelude.{◌≡◌, ℕ, List, Ok}
use Rattle.grid_moves.specs.Joining.{Equivalent}
use Rattle.verdict_core.specs.declared.problem.ProblemText.{ProblemText}
use Rattle.verdict_core.specs.Diagrams.{grid_of}
use Rattle.cert_check.specs.VerdictTruth.{IsTrueVerdict}
use Rattle.number_text.specs.declared.said.Said.{Said}
use Rattle.number_text.specs.declared.said.Said.TheVariants as said
use Rattle.number_text.specs.Said.{said_of}
use Rattle.table_check.specs.Answer.{IsTrueTable}
use Rattle.check_job.specs.Input.{Certificate, certificate_of}

-- no list of moves joins the two diagrams of a problem
abbrev pub AreApart : ProblemText → Type 0
AreApart problem = Equivalent (grid_of problem.first) (grid_of problem.second) → ⊥

-- what is said of the two diagrams is true: what a verdict claims; of evidence by numbers, that the diagrams are not equivalent
abbrev pub IsTrueSaid : ProblemText → Said → Type 0
IsTrueSaid problem (said.Verdict verdict) = IsTrueVerdict problem verdict
IsTrueSaid problem (said.Evidence evidence) = AreApart problem

-- the bytes are a problem, and what they say of its diagrams, by a verdict or by numbers, is true
pub record IsTruePair (bytes : List ℕ) : Type 0 where
  pub problem : ProblemText
  pub said : Said
  pub read : said_of bytes ≡ Ok (problem, said)
  pub is_true : IsTrueSaid problem said

-- what a certificate says is true, of the two diagrams of a problem or of the rows and classes of a table
abbrev pub IsTrueCertificate : Certificate → Type 0
IsTrueCertificate (inl pair) = IsTrueSaid pair.0 pair.1
IsTrueCertificate (inr table) = IsTrueTable table

-- the bytes are a certificate, and what it says is true
pub record IsCertificate (bytes : List ℕ) : Type 0 where
  pub certificate : Certificate
  pub read : certificate_of bytes ≡ Ok certificate
  pub is_true : IsTrueCertificate certificate
