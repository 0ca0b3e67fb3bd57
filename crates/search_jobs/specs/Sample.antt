-- The job `sample`: it has no input, and its seed is answered by a walk, checked and coloured.
use Rattle.std.specs.Prelude.{◌≡◌, ℕ}
use Rattle.search_jobs.specs.Text.{sample_text}
use Rattle.reply_text.specs.declared.reply.PlainReply.{PlainReply}
use Rattle.reply_text.specs.Reply.{done}

abbrev pub AnswersSample : ℕ → PlainReply → Type 0
AnswersSample seed reply = reply ≡ done (sample_text seed)
