-- How a call ends, from the reply that is due and what was written.
use Rattle.std.proofs.Common.{◌≡◌, Bool, true, false, Result, Ok, Err, refl, sym, ap, subst, ◌∙◌, inl, inr}
use Rattle.text_items.specs.declared.fault.TextFault.{TextFault}
use Rattle.text_items.specs.declared.fault.TextFault.TheVariants as bad
use Rattle.verdict_core.specs.declared.problem.ProblemText.{ProblemText}
use Rattle.cert_check.specs.declared.ruling.Ruling.{Ruling}
use Rattle.cert_check.specs.declared.ruling.Ruling.TheVariants.{Accepted, Rejected}
use Rattle.evidence_core.specs.declared.cause.NumberRuling.{NumberRuling}
use Rattle.evidence_core.specs.declared.cause.NumberRuling.TheVariants as numbers
use Rattle.knot_ports.specs.Change.{Change, IsUntouched}
use Rattle.knot_ports.specs.declared.limits.TheConstants.{MAX_CERTIFICATE}
use Rattle.knot_ports.specs.declared.status.Status.{Status}
use Rattle.knot_ports.specs.declared.status.Status.TheVariants as status
use Rattle.reply_text.specs.declared.reply.PlainReply.{PlainReply}
use Rattle.number_text.specs.declared.said.Said.{Said}
use Rattle.number_text.specs.declared.said.Said.TheVariants as said
use Rattle.reply_text.specs.Reply.{AnswersRead}
use Rattle.table_check.specs.declared.cause.TableRuling.{TableRuling}
use Rattle.table_check.specs.declared.cause.TableRuling.TheVariants as table
use Rattle.table_check.specs.Answer.{table_ruling_status}
use Rattle.check_job.specs.Input.{Certificate, certificate_of}
use Rattle.check_job.specs.Answer.{ruling_status, number_ruling_status, AnswersSaid, AnswersCheck}
use Rattle.check_job.specs.Ending.{IsCheckReplyDue, IsCheckCutOff, WritesCheckReply, EndsCheck}
use Rattle.check_job.specs.Ports.{IsUnreadWithin, IsWritten}

abbrev status_of : PlainReply → Status
status_of r = r.status

-- the statuses of replies
abbrev is_of_reply : Status → Bool
is_of_reply status.Done = true
is_of_reply status.Rejected = true
is_of_reply status.Malformed = true
is_of_reply status.Limit = true
is_of_reply s = false

of_ruling : (ruling : Ruling) → is_of_reply (ruling_status ruling) ≡ true
of_ruling Accepted = refl
of_ruling (Rejected cause) = refl

of_number_ruling : (ruling : NumberRuling) → is_of_reply (number_ruling_status ruling) ≡ true
of_number_ruling numbers.Accepted = refl
of_number_ruling (numbers.Rejected cause) = refl

of_said : (p : ProblemText) (s : Said) (r : PlainReply) → AnswersSaid p s r → is_of_reply r.status ≡ true
of_said p (said.Verdict v) r a = ap is_of_reply (ap status_of a.is) ∙ of_ruling a.ruling
of_said p (said.Evidence e) r a = ap is_of_reply (ap status_of a.is) ∙ of_number_ruling a.ruling

of_table_ruling : (ruling : TableRuling) → is_of_reply (table_ruling_status ruling) ≡ true
of_table_ruling table.Accepted = refl
of_table_ruling (table.Rejected cause) = refl

of_certificate : (c : Certificate) (r : PlainReply) → AnswersCheck c r → is_of_reply r.status ≡ true
of_certificate (inl pair) r a = of_said pair.0 pair.1 r a
of_certificate (inr t) r a = ap is_of_reply (ap status_of a.is) ∙ of_table_ruling a.ruling

of_read : (read : Result Certificate TextFault) (r : PlainReply) → AnswersRead AnswersCheck read r → is_of_reply r.status ≡ true
of_read (Ok certificate) r a = of_certificate certificate r a
of_read (Err (bad.Malformed line)) r a = ap is_of_reply (ap status_of a)
of_read (Err (bad.Limit line)) r a = ap is_of_reply (ap status_of a)
of_read (Err bad.OutOfMemory) r a = absurd a

of_due : (source : Change) (r : PlainReply) → IsCheckReplyDue source r → is_of_reply r.status ≡ true
of_due source r due = elim due [ inl whole ↦ of_read (certificate_of whole.bytes) r whole.answer | inr long ↦ ap is_of_reply (ap status_of long.is) ]

written : (source sink : Change) (s : Status) → is_of_reply s ≡ true → WritesCheckReply source sink s → EndsCheck source sink s
written source sink status.Done is writes = writes
written source sink status.Rejected is writes = writes
written source sink status.Malformed is writes = writes
written source sink status.Limit is writes = writes
written source sink status.Unknown is writes = absurd (let wrong : false ≡ true = is in cc)
written source sink status.Usage is writes = absurd (let wrong : false ≡ true = is in cc)
written source sink status.ReadFault is writes = absurd (let wrong : false ≡ true = is in cc)
written source sink status.WriteFault is writes = absurd (let wrong : false ≡ true = is in cc)
written source sink status.OutOfMemory is writes = absurd (let wrong : false ≡ true = is in cc)

pub reply_ends : (source sink : Change) (r : PlainReply) (s : Status) → IsCheckReplyDue source r → IsWritten sink r.text r.status s → EndsCheck source sink s
reply_ends source sink r s due delivered = elim delivered [
  | inl whole ↦
      let same : r ≡ record { status = s; text = r.text } = λ i. record { status = sym whole.0 i; text = r.text } in
      written source sink s (ap is_of_reply whole.0 ∙ of_due source r due)
      (record { text = r.text; due = subst (IsCheckReplyDue source) same due; written = whole.1 })
  | inr cut ↦
      let cut_off : IsCheckCutOff source sink = record { failed = cut.1.0; reply = r; due = due; front = cut.1.1 } in
      subst (EndsCheck source sink) (sym cut.0) cut_off
]

pub without_ends : (source sink : Change) (s : Status) → IsUnreadWithin MAX_CERTIFICATE source s → IsUntouched sink → EndsCheck source sink s
without_ends source sink s without untouched = elim without [
  | inl fault ↦ subst (EndsCheck source sink) (sym fault.0) (fault.1.0, fault.1.1, untouched)
  | inr memory ↦ subst (EndsCheck source sink) (sym memory.0) (memory.1, untouched)
]
