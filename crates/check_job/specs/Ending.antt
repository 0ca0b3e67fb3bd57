-- How a call of the checker ends: the reply that is due to its input, and what it leaves outside by its status.
use Rattle.std.specs.Prelude.{◌≡◌, ◌+◌, ◌⊎◌, ℕ, List}
use Rattle.std.specs.Io.KnownBytes.{Appends}
use Rattle.knot_ports.specs.Sink.{AppendsFront}
use Rattle.knot_ports.specs.Change.{Change, IsUntouched, Failed, IsWhole, IsTooMuch, Drops}
use Rattle.knot_ports.specs.declared.limits.TheConstants.{MAX_CERTIFICATE}
use Rattle.knot_ports.specs.declared.status.Status.{Status}
use Rattle.knot_ports.specs.declared.status.Status.TheVariants as status
use Rattle.reply_text.specs.declared.reply.PlainReply.{PlainReply}
use Rattle.check_job.specs.Input.{certificate_of}
use Rattle.reply_text.specs.Reply.{too_long, AnswersRead}
use Rattle.check_job.specs.Answer.{AnswersCheck}
use Rattle.check_job.specs.CertificateTruth.{IsCertificate}

-- the reply to the whole input, and what it says with Done is true
pub record IsCheckReplyTo (source : Change) (reply : PlainReply) : Type 0 where
  pub bytes : List ℕ
  pub came : IsWhole MAX_CERTIFICATE source bytes
  pub answer : AnswersRead AnswersCheck (certificate_of bytes) reply
  pub truth : reply.status ≡ status.Done → IsCertificate bytes

-- the reply to an input of more bytes than a certificate may have
pub record IsTooLong (source : Change) (reply : PlainReply) : Type 0 where
  pub bytes : List ℕ
  pub came : IsTooMuch MAX_CERTIFICATE source bytes
  pub is : reply ≡ too_long

-- the reply that is due to the input
abbrev pub IsCheckReplyDue : Change → PlainReply → Type 0
IsCheckReplyDue source reply = IsCheckReplyTo source reply ⊎ IsTooLong source reply

-- the reply that is due has this status, and its text was written
pub record WritesCheckReply (source sink : Change) (s : Status) : Type 0 where
  pub text : List ℕ
  pub due : IsCheckReplyDue source (record { status = s; text = text })
  pub written : Appends sink.before sink.after text

-- the sink failed, and a front of the text that is due was written
pub record IsCheckCutOff (source sink : Change) : Type 0 where
  pub failed : Failed sink
  pub reply : PlainReply
  pub due : IsCheckReplyDue source reply
  pub front : AppendsFront sink.before sink.after reply.text

-- how a call that ends with this status went
abbrev pub EndsCheck : Change → Change → Status → Type 0
EndsCheck source sink status.Usage = ⊥
EndsCheck source sink status.Unknown = ⊥
EndsCheck source sink status.ReadFault = Failed source × Drops MAX_CERTIFICATE source × IsUntouched sink
EndsCheck source sink status.WriteFault = IsCheckCutOff source sink
EndsCheck source sink status.OutOfMemory = Drops (MAX_CERTIFICATE + 1) source × IsUntouched sink
EndsCheck source sink s = WritesCheckReply source sink s
