-- The reply of a plain job: a status, and the text that is written with it; the replies that several jobs have.
use Rattle.std.specs.Prelude.{◌≡◌, ℕ, List, Result, Ok, Err}
use Rattle.text_items.specs.declared.fault.TextFault.{TextFault}
use Rattle.text_items.specs.declared.fault.TextFault.TheVariants as bad
use Rattle.reply_text.specs.declared.reply.PlainReply.{PlainReply}
use Rattle.knot_ports.specs.declared.status.Status.{Status}
use Rattle.knot_ports.specs.declared.status.Status.TheVariants as status
use Rattle.reply_text.specs.Lines.{rejected_line, malformed_line, limit_line, limit_bytes}

-- a status and its text
abbrev pub plain_reply : Status → List ℕ → PlainReply
plain_reply s text = record { status = s; text = text }

-- the text that a job has for its input
abbrev pub done : List ℕ → PlainReply
done text = plain_reply status.Done text

-- why evidence, a move or colours are refused
abbrev pub rejected : List (List ℕ) → PlainReply
rejected cause = plain_reply status.Rejected (rejected_line cause)

-- the reply to an input of too many bytes
abbrev pub too_long : PlainReply
too_long = plain_reply status.Limit limit_bytes

-- a first bad line is named by the reply; want of memory is no bad line
abbrev pub IsFaultReply : TextFault → PlainReply → Type 0
IsFaultReply (bad.Malformed line) reply = reply ≡ plain_reply status.Malformed (malformed_line line)
IsFaultReply (bad.Limit line) reply = reply ≡ plain_reply status.Limit (limit_line line)
IsFaultReply bad.OutOfMemory reply = ⊥

-- what was read is answered by the job, and a first bad line by the reply that names it
abbrev pub AnswersRead : {A : Type 0} → (A → PlainReply → Type 0) → Result A TextFault → PlainReply → Type 0
AnswersRead answers (Ok input) reply = answers input reply
AnswersRead answers (Err fault) reply = IsFaultReply fault reply
