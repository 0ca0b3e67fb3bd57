-- A reply: a plain reply, and the search that is kept with it.
use Rattle.std.specs.Prelude.{◌≡◌, None, Result, Ok, Err}
use Rattle.text_items.specs.declared.fault.TextFault.{TextFault}
use Rattle.reply_text.specs.declared.reply.PlainReply.{PlainReply}
use Rattle.reply_text.specs.Reply.{IsFaultReply}
use Rattle.search_jobs.specs.declared.reply.Reply.{Reply}

-- a plain reply, behind which is no search: every reply but a verdict that `decide` took from a search
abbrev pub without_search : PlainReply → Reply
without_search plain = record { status = plain.status; text = plain.text; kept = None }

-- the status and the text of a reply
abbrev pub plain_of : Reply → PlainReply
plain_of reply = record { status = reply.status; text = reply.text }

-- by a plain reply, behind which is no search
abbrev pub plainly : {A : Type 0} → (A → PlainReply → Type 0) → A → Reply → Type 0
plainly answers input reply = (reply.kept ≡ None) × answers input (plain_of reply)

-- what was read is answered by the job, and a first bad line by the plain reply that names it
abbrev pub RepliesRead : {A : Type 0} → (A → Reply → Type 0) → Result A TextFault → Reply → Type 0
RepliesRead answers (Ok input) reply = answers input reply
RepliesRead answers (Err fault) reply = plainly IsFaultReply fault reply
