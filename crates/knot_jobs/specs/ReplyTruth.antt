-- What the texts of calls are worth that end with `Done`: a verdict that `decide` writes, and what plain jobs say.
use Rattle.std.specs.Prelude.{◌≡◌, ℕ, List, Option}
use Rattle.std.specs.Io.KnownBytes.{Appends}
use Rattle.cert_check.specs.declared.ruling.Ruling.TheVariants.{Accepted}
use Rattle.knot_ports.specs.declared.status.Status.{Status}
use Rattle.knot_ports.specs.declared.status.Status.TheVariants as status
use Rattle.verdict_laws.specs.VerdictDecision.{put_behind, IsDecisionByVerdict}
use Rattle.knot_words.specs.declared.job.PlainJob.TheVariants.{Check}
use Rattle.reply_text.specs.Lines.{ruling_line}
use Rattle.reply_text.specs.Reply.{done}
use Rattle.plain_jobs.specs.Job.{AnswersPlainly}
use Rattle.plain_jobs.specs.TextTruth.{IsTrueText}
use Rattle.search_pool.specs.declared.finding.Finding.{Finding}
use Rattle.search_jobs.specs.declared.reply.Reply.{Reply}
use Rattle.knot_words.specs.declared.words.Asked.{Asked}
use Rattle.knot_words.specs.declared.job.Job.{Job}
use Rattle.knot_words.specs.declared.job.Job.TheVariants.{Decide, Plain}
use Rattle.knot_words.specs.Words.{Asks}
use Rattle.knot_words.specs.Limits.{limit_of}
use Rattle.knot_jobs.specs.Answer.{IsNotOver}
use Rattle.knot_ports.specs.Change.{Change}
use Rattle.knot_jobs.specs.Call.{Call, TakesAll}
use Rattle.knot_jobs.specs.Ending.{EndsAnyCall}

-- ---- a verdict that was written

-- the text behind the input is an input of `check`, which accepts it, if both together are not too long
abbrev pub IsAcceptedByCheck : List ℕ → List ℕ → Type 0
IsAcceptedByCheck bytes text =
    IsNotOver (limit_of (Plain Check)) (put_behind bytes text) → AnswersPlainly Check (put_behind bytes text) (done (ruling_line Accepted))

-- the text is a decision on the bytes by a verdict, and behind them `check` accepts it
pub record IsCheckedDecision (bytes text : List ℕ) : Type 0 where
  pub decision : IsDecisionByVerdict bytes text
  pub accepted : IsAcceptedByCheck bytes text

-- ---- a call

-- what a job's text with Done says of its input is true: of `decide`, which writes a verdict, and of plain jobs. `simplify`, `least`
-- and `sample` claim nothing
abbrev pub IsTrueReply : Job → List ℕ → List ℕ → Type 0
IsTrueReply Decide bytes text = IsCheckedDecision bytes text
IsTrueReply (Plain job) bytes text = IsTrueText job bytes text
IsTrueReply job bytes text = Unit {0}

-- where a reply has Done, what it says of these bytes is true
abbrev pub IsTrueIfDone : Job → List ℕ → Reply → Type 0
IsTrueIfDone job bytes reply = reply.status ≡ status.Done → IsTrueReply job bytes reply.text

-- where a reply has Done, what it says of the whole input is true
abbrev pub IsTrueOf : Job → Change → Reply → Type 0
IsTrueOf job source reply =
    reply.status ≡ status.Done → (bytes : List ℕ) × (TakesAll (limit_of job) source bytes × IsTrueReply job bytes reply.text)

-- where a call ended with Done, its text was written, and what it says of the whole input is true
abbrev pub TellsOnlyTruth : Call → Status → Type 0
TellsOnlyTruth call s = (asked : Asked) → Asks call.words asked → s ≡ status.Done → (bytes : List ℕ) × ((text : List ℕ)
    × (TakesAll (limit_of asked.job) call.source bytes × (Appends call.sink.before call.sink.after text × IsTrueReply asked.job bytes text)))

-- how a call goes that has this status and keeps this search: it ends as is due, and tells only truth
pub record Goes (call : Call) (s : Status) (kept : Option Finding) : Type 0 where
  pub ends : EndsAnyCall call s kept
  pub truth : TellsOnlyTruth call s
