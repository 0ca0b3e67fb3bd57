-- What is due to an input: how many bytes it may have, how each job reads it, and the replies to what was read.
use Rattle.std.specs.Prelude.{◌≡◌, ◌<◌, ◌≤◌, ◌⊎◌, ℕ, List, length, Bool, true, false}
use Rattle.std.specs.Prelude.{Option, Some, None, Result, Ok, IsOk}
use Rattle.verdict_core.specs.declared.diagrams.Diagram.{Diagram}
use Rattle.text_items.specs.declared.fault.TextFault.{TextFault}
use Rattle.verdict_core.specs.declared.problem.ProblemText.{ProblemText}
use Rattle.verdict_text.specs.Problems.{problem_of}
use Rattle.knot_text.specs.Shapes.{lone_diagram_of}
use Rattle.reply_text.specs.Reply.{too_long}
use Rattle.plain_jobs.specs.Job.{plain_task, is_determined, IsTooWideFor}
use Rattle.search_jobs.specs.declared.reply.Reply.{Reply}
use Rattle.knot_words.specs.Limits.{limit_of}
use Rattle.knot_words.specs.declared.job.Job.{Job}
use Rattle.knot_words.specs.declared.job.Job.TheVariants.{Decide, Simplify, Least, Sample, Plain}
use Rattle.knot_words.specs.declared.words.Asked.{Asked}
use Rattle.search_jobs.specs.Reply.{without_search, plain_of, plainly, RepliesRead}
use Rattle.search_jobs.specs.Decide.{AnswersDecide}
use Rattle.search_jobs.specs.Simplify.{AnswersSimplify}
use Rattle.search_jobs.specs.Least.{AnswersLeast}
use Rattle.search_jobs.specs.Sample.{AnswersSample}

-- ---- the bytes of an input

-- there are more bytes than the limit
abbrev pub IsOver : Option ℕ → List ℕ → Type 0
IsOver (Some limit) bytes = limit < length bytes
IsOver None bytes = ⊥

-- there are not more; without a limit, always
abbrev pub IsNotOver : Option ℕ → List ℕ → Type 0
IsNotOver (Some limit) bytes = length bytes ≤ limit
IsNotOver None bytes = Unit {0}

-- ---- what a job makes of them

-- what a job reads in the bytes of its input, and the replies to it
pub record JobTask : Type 1 where
  pub Input : Type 0
  pub read : List ℕ → Result Input TextFault
  pub Replies : Input → Reply → Type 0

-- the task of each job; that of `sample` rests on the seed alone
abbrev pub task_of : Job → Asked → JobTask
task_of Decide asked = record { Input = ProblemText; read = problem_of; Replies = AnswersDecide asked }
task_of Simplify asked = record { Input = Diagram; read = lone_diagram_of; Replies = plainly (AnswersSimplify asked.budget) }
task_of Least asked = record { Input = Diagram; read = lone_diagram_of; Replies = plainly (AnswersLeast asked.budget) }
task_of Sample asked = record { Input = ℕ; read = λ bytes. Ok asked.seed; Replies = plainly AnswersSample }
task_of (Plain job) asked = record { Input = (plain_task job).Input; read = (plain_task job).read; Replies = plainly (plain_task job).Replies }

-- the job leaves no choice of what to reply: the verdict of `decide` may rest on one search or another, `simplify` and `least` may go by
-- one list of moves or another, and some plain jobs aren't determined by their inputs
abbrev pub leaves_no_choice : Job → Bool
leaves_no_choice Decide = false
leaves_no_choice Simplify = false
leaves_no_choice Least = false
leaves_no_choice Sample = true
leaves_no_choice (Plain job) = is_determined job

-- the bytes are a text of the job's shape: no line of it is bad; of `sample`, which reads none, any bytes
abbrev pub IsInShape : Asked → List ℕ → Type 0
IsInShape asked bytes = IsOk ((task_of asked.job asked).read bytes)

-- the reply says that a diagram of the input takes too many columns, which `grid` alone says
abbrev pub IsBeyondColumns : Job → Reply → Type 0
IsBeyondColumns (Plain job) reply = IsTooWideFor job (plain_of reply)
IsBeyondColumns job reply = ⊥

-- what the job that is asked for replies to bytes within its limit
abbrev pub AnswersText : Asked → List ℕ → Reply → Type 0
AnswersText asked bytes reply = RepliesRead (task_of asked.job asked).Replies ((task_of asked.job asked).read bytes) reply

-- and to the bytes of any input
abbrev pub Answers : Asked → List ℕ → Reply → Type 0
Answers asked bytes reply =
    (IsOver (limit_of asked.job) bytes × (reply ≡ without_search too_long)) ⊎ (IsNotOver (limit_of asked.job) bytes × AnswersText asked bytes reply)
