-- A plain reply to what was read, as the reply of a call.
use Rattle.std.proofs.Common.{◌≡◌, ℕ, List, Result, Ok, Err, refl, sym, subst}
use Rattle.text_items.specs.declared.fault.TextFault.{TextFault}
use Rattle.reply_text.specs.declared.reply.PlainReply.{PlainReply}
use Rattle.reply_text.specs.Reply.{AnswersRead}
use Rattle.search_jobs.specs.declared.reply.Reply.{Reply}
use Rattle.knot_words.specs.declared.job.Job.{Job}
use Rattle.knot_words.specs.declared.words.Asked.{Asked}
use Rattle.search_jobs.specs.Reply.{without_search, plainly, RepliesRead}
use Rattle.knot_jobs.specs.Answer.{task_of, AnswersText}

-- by its own job
abbrev pub AnswersAs : Job → Asked → List ℕ → Reply → Type 0
AnswersAs job asked bytes reply = RepliesRead (task_of job asked).Replies ((task_of job asked).read bytes) reply

pub read_plainly : {A : Type 0} (answers : A → PlainReply → Type 0) (read : Result A TextFault) (plain : PlainReply) → AnswersRead answers read plain
    → RepliesRead (plainly answers) read (without_search plain)
read_plainly answers (Ok i) plain a = (refl, a)
read_plainly answers (Err fault) plain a = (refl, a)

-- by the job that is asked for
pub answers_as : (asked : Asked) (bytes : List ℕ) (job : Job) (plain : PlainReply) (reply : Reply) → asked.job ≡ job → reply ≡ without_search plain
    → AnswersAs job asked bytes (without_search plain) → AnswersText asked bytes reply
answers_as asked bytes job plain reply is same a =
    subst (AnswersText asked bytes) (sym same) (subst (λ (j : Job). AnswersAs j asked bytes (without_search plain)) (sym is) a)
