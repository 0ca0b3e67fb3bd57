-- What is due to the input of a plain job: how each job reads it, and the replies to what was read.
use Rattle.std.specs.Prelude.{ℕ, List, Bool, true, false, Result}
use Rattle.verdict_core.specs.declared.diagrams.Diagram.{Diagram}
use Rattle.text_items.specs.declared.fault.TextFault.{TextFault}
use Rattle.knot_text.specs.declared.shapes.ReplayText.{ReplayText}
use Rattle.knot_text.specs.declared.shapes.ColourText.{ColourText}
use Rattle.knot_text.specs.declared.shapes.CloseText.{CloseText}
use Rattle.knot_text.specs.declared.braid_checks.BraidCheckText.{BraidCheckText}
use Rattle.knot_text.specs.Shapes.{replay_of, colour_of, close_of, lone_diagram_of}
use Rattle.knot_text.specs.Pairs.{pair_of}
use Rattle.knot_text.specs.BraidChecks.{braidcheck_of}
use Rattle.number_text.specs.declared.numbered.NumbersText.{NumbersText}
use Rattle.number_text.specs.Numbered.{numbers_of}
use Rattle.number_text.specs.declared.weighed.WeighedText.{WeighedText}
use Rattle.number_text.specs.Weighed.{weighed_of}
use Rattle.code_text.specs.declared.code_reading.CodeText.{CodeText}
use Rattle.code_text.specs.CodeReading.{code_text_of}
use Rattle.reply_text.specs.declared.reply.PlainReply.{PlainReply}
use Rattle.knot_words.specs.declared.job.PlainJob.{PlainJob}
use Rattle.knot_words.specs.declared.job.PlainJob.TheVariants.{Check, Replay, Colour, Close, Code, Braid, Linking, Braidcheck, Weights, Numbers, Grid}
use Rattle.reply_text.specs.Reply.{AnswersRead}
use Rattle.check_job.specs.Input.{Certificate, certificate_of}
use Rattle.check_job.specs.Answer.{AnswersCheck}
use Rattle.plain_jobs.specs.Jobs.Replay.{AnswersReplay}
use Rattle.plain_jobs.specs.Jobs.Colour.{AnswersColour}
use Rattle.plain_jobs.specs.Jobs.Close.{AnswersClose}
use Rattle.plain_jobs.specs.Jobs.Code.{AnswersCode}
use Rattle.plain_jobs.specs.Jobs.Braid.{AnswersBraid}
use Rattle.plain_jobs.specs.Jobs.Linking.{AnswersLinking}
use Rattle.plain_jobs.specs.Jobs.Braidcheck.{AnswersBraidcheck}
use Rattle.plain_jobs.specs.Jobs.Weights.{AnswersWeights}
use Rattle.plain_jobs.specs.Jobs.Numbers.{AnswersNumbers}
use Rattle.plain_jobs.specs.Jobs.Grid.{IsTooWide, AnswersGrid}

-- what a job reads in the bytes of its input, and the replies to it
pub record PlainTask : Type 1 where
  pub Input : Type 0
  pub read : List ℕ → Result Input TextFault
  pub Replies : Input → PlainReply → Type 0

-- the task of each job
abbrev pub plain_task : PlainJob → PlainTask
plain_task Check = record { Input = Certificate; read = certificate_of; Replies = AnswersCheck }
plain_task Replay = record { Input = ReplayText; read = replay_of; Replies = AnswersReplay }
plain_task Colour = record { Input = ColourText; read = colour_of; Replies = AnswersColour }
plain_task Close = record { Input = CloseText; read = close_of; Replies = AnswersClose }
plain_task Code = record { Input = Diagram; read = lone_diagram_of; Replies = AnswersCode }
plain_task Braid = record { Input = ColourText; read = colour_of; Replies = AnswersBraid }
plain_task Linking = record { Input = Diagram × Diagram; read = pair_of; Replies = AnswersLinking }
plain_task Braidcheck = record { Input = BraidCheckText; read = braidcheck_of; Replies = AnswersBraidcheck }
plain_task Weights = record { Input = WeighedText; read = weighed_of; Replies = AnswersWeights }
plain_task Numbers = record { Input = NumbersText; read = numbers_of; Replies = AnswersNumbers }
plain_task Grid = record { Input = CodeText; read = code_text_of; Replies = AnswersGrid }

-- what a job replies to the bytes of its input
abbrev pub AnswersPlainly : PlainJob → List ℕ → PlainReply → Type 0
AnswersPlainly job bytes reply = AnswersRead (plain_task job).Replies ((plain_task job).read bytes) reply

-- the input determines the reply; but `numbers` may count by one plan or another, and `grid` may draw one diagram of a code or another
abbrev pub is_determined : PlainJob → Bool
is_determined Numbers = false
is_determined Grid = false
is_determined job = true

-- the reply says that a diagram of the input takes too many columns, which `grid` alone says
abbrev pub IsTooWideFor : PlainJob → PlainReply → Type 0
IsTooWideFor Grid reply = IsTooWide reply
IsTooWideFor job reply = ⊥
