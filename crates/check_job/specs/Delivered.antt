-- What the steps of a call leave to each other. No public clause cites it.
use Rattle.std.specs.Prelude.{Result, Ok, Err}
use Rattle.knot_ports.specs.Change.{Change}
use Rattle.knot_ports.specs.declared.limits.TheConstants.{MAX_CERTIFICATE}
use Rattle.knot_ports.specs.declared.status.Status.{Status}
use Rattle.reply_text.specs.declared.reply.PlainReply.{PlainReply}
use Rattle.check_job.specs.Ports.{IsUnreadWithin}
use Rattle.check_job.specs.Ending.{IsCheckReplyDue}

-- the reply is due to what came; the error is the status of a call that writes nothing
abbrev pub IsCheckReplyMade : Change → Result PlainReply Status → Type 0
IsCheckReplyMade source (Ok reply) = IsCheckReplyDue source reply
IsCheckReplyMade source (Err s) = IsUnreadWithin MAX_CERTIFICATE source s
