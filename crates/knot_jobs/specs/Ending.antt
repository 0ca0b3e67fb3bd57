-- How a call ends: the reply that is due by its words and its input, and what a call leaves outside by its status.
use Rattle.std.specs.Prelude.{◌≡◌, ◌⊎◌, ℕ, List, codes, Option, None}
use Rattle.std.specs.Io.KnownBytes.{Appends}
use Rattle.knot_ports.specs.Sink.{AppendsFront}
use Rattle.search_pool.specs.declared.finding.Finding.{Finding}
use Rattle.search_jobs.specs.declared.reply.Reply.{Reply}
use Rattle.knot_words.specs.declared.words.Asked.{Asked}
use Rattle.knot_ports.specs.declared.status.Status.{Status}
use Rattle.knot_ports.specs.declared.status.Status.TheVariants as status
use Rattle.knot_words.specs.Words.{Asks, AsksNothing}
use Rattle.reply_text.specs.Reply.{plain_reply}
use Rattle.search_jobs.specs.Reply.{without_search}
use Rattle.knot_jobs.specs.Call.{with_workers, Call, Comes, Loses}
use Rattle.knot_words.specs.Limits.{limit_of}
use Rattle.knot_jobs.specs.Answer.{Answers}
use Rattle.knot_ports.specs.Change.{Change, IsUntouched, Failed}

-- ---- the reply that is due

abbrev pub usage_line : List ℕ
usage_line = codes "usage: knot JOB [--workers W] [--budget B] [--spare S] [--seed N]\n"

-- the job's answer to what came
pub record IsReplyTo (asked : Asked) (source : Change) (reply : Reply) : Type 0 where
  pub bytes : List ℕ
  pub came : Comes (limit_of asked.job) source bytes
  pub answer : Answers asked bytes reply

-- the words ask for a job, and this is its answer, with as many workers as search in this call
pub record IsAnswered (call : Call) (reply : Reply) : Type 0 where
  pub asked : Asked
  pub asks : Asks call.words asked
  pub answer : IsReplyTo (with_workers call.searching asked) call.source reply

-- the words ask for nothing, and the source was not called
pub record IsMisused (call : Call) (reply : Reply) : Type 0 where
  pub refused : AsksNothing call.words
  pub source : IsUntouched call.source
  pub is : reply ≡ without_search (plain_reply status.Usage usage_line)

-- the reply that is due by the words and the input
abbrev pub IsDue : Call → Reply → Type 0
IsDue call reply = IsAnswered call reply ⊎ IsMisused call reply

-- ---- the end

-- a reply of this kind, with this status, was written, and its search is kept
pub record Writes (Is : Reply → Type 0) (call : Call) (s : Status) (kept : Option Finding) : Type 0 where
  pub text : List ℕ
  pub is : Is (record { status = s; text = text; kept = kept })
  pub written : Appends call.sink.before call.sink.after text

-- the sink failed, and a front of the text that is due was written
pub record IsCutOff (call : Call) : Type 0 where
  pub failed : Failed call.sink
  pub reply : Reply
  pub due : IsDue call reply
  pub front : AppendsFront call.sink.before call.sink.after reply.text

-- the words ask for a job that has an input, and the bytes that came are lost: at most so many more than its limit
pub record LosesInput (call : Call) (more : ℕ) : Type 0 where
  pub asked : Asked
  pub asks : Asks call.words asked
  pub lost : Loses (limit_of asked.job) more call.source

-- how a call that ends with this status went, and what it keeps: a search only behind a reply that was written. The last line
-- is that of the jobs' answers: Done, Unknown, Rejected, Malformed and Limit
abbrev pub EndsAnyCall : Call → Status → Option Finding → Type 0
EndsAnyCall call status.Usage kept = Writes (IsMisused call) call status.Usage kept
EndsAnyCall call status.ReadFault kept = (Failed call.source × LosesInput call 0 × IsUntouched call.sink) × (kept ≡ None)
EndsAnyCall call status.WriteFault kept = IsCutOff call × (kept ≡ None)
EndsAnyCall call status.OutOfMemory kept = ((IsUntouched call.source ⊎ LosesInput call 1) × IsUntouched call.sink) × (kept ≡ None)
EndsAnyCall call s kept = Writes (IsAnswered call) call s kept
