-- The job `check`: what is said of two diagrams is answered by the ruling on its evidence, and a table of knots by the ruling on it.
use mathlib.Core.Logic.{inl, inr}
use Rattle.std.specs.Prelude.{◌≡◌}
use Rattle.verdict_core.specs.declared.problem.ProblemText.{ProblemText}
use Rattle.verdict_core.specs.declared.verdict.Verdict.{Verdict}
use Rattle.verdict_core.specs.Diagrams.{grid_of}
use Rattle.cert_check.specs.declared.ruling.Ruling.{Ruling}
use Rattle.cert_check.specs.declared.ruling.Ruling.TheVariants.{Accepted, Rejected}
use Rattle.cert_check.specs.Ruling.{RulesOnVerdict}
use Rattle.evidence_core.specs.declared.evidence.Evidence.{Evidence}
use Rattle.number_text.specs.declared.said.Said.{Said}
use Rattle.number_text.specs.declared.said.Said.TheVariants as said
use Rattle.evidence_core.specs.declared.cause.NumberRuling.{NumberRuling}
use Rattle.evidence_core.specs.declared.cause.NumberRuling.TheVariants as numbers
use Rattle.number_check.specs.Ruling.{RulesOnEvidence}
use Rattle.reply_text.specs.declared.reply.PlainReply.{PlainReply}
use Rattle.knot_ports.specs.declared.status.Status.{Status}
use Rattle.knot_ports.specs.declared.status.Status.TheVariants as status
use Rattle.reply_text.specs.Lines.{ruling_line, number_ruling_line}
use Rattle.reply_text.specs.Reply.{plain_reply}
use Rattle.table_check.specs.Answer.{AnswersTable}
use Rattle.check_job.specs.Input.{Certificate}

abbrev pub ruling_status : Ruling → Status
ruling_status Accepted = status.Done
ruling_status (Rejected cause) = status.Rejected

abbrev pub number_ruling_status : NumberRuling → Status
number_ruling_status numbers.Accepted = status.Done
number_ruling_status (numbers.Rejected cause) = status.Rejected

-- the ruling on the evidence of a verdict
pub record AnswersVerdict (problem : ProblemText) (verdict : Verdict) (reply : PlainReply) : Type 0 where
  pub ruling : Ruling
  pub rules : RulesOnVerdict (grid_of problem.first) (grid_of problem.second) verdict ruling
  pub is : reply ≡ plain_reply (ruling_status ruling) (ruling_line ruling)

-- the ruling on evidence by numbers
pub record AnswersEvidence (problem : ProblemText) (evidence : Evidence) (reply : PlainReply) : Type 0 where
  pub ruling : NumberRuling
  pub rules : RulesOnEvidence (grid_of problem.first) (grid_of problem.second) evidence ruling
  pub is : reply ≡ plain_reply (number_ruling_status ruling) (number_ruling_line ruling)

abbrev pub AnswersSaid : ProblemText → Said → PlainReply → Type 0
AnswersSaid problem (said.Verdict verdict) reply = AnswersVerdict problem verdict reply
AnswersSaid problem (said.Evidence evidence) reply = AnswersEvidence problem evidence reply

abbrev pub AnswersPair : ProblemText × Said → PlainReply → Type 0
AnswersPair pair reply = AnswersSaid pair.0 pair.1 reply

-- either
abbrev pub AnswersCheck : Certificate → PlainReply → Type 0
AnswersCheck (inl pair) reply = AnswersPair pair reply
AnswersCheck (inr table) reply = AnswersTable table reply
