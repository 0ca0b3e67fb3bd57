use Rattle.std.proofs.Common.{◌≡◌, ◌∙◌, refl, sym, ap}
use Rattle.std.proofs.lemmas.Result.{IfOk-weaker}
use Rattle.table_check.specs.declared.cause.TableRuling.{TableRuling}
use Rattle.table_check.specs.declared.cause.TableRuling.TheVariants.{Accepted, Rejected}
use Rattle.knot_ports.specs.declared.status.Status.TheVariants as status
use Rattle.reply_text.specs.declared.reply.PlainReply.{PlainReply}
use Rattle.table_check.specs.Answer.{table_ruling_status}
use Rattle.table_check.proofs.answer.answer_read.Goals as goal

accepted_where_done : (ruling : TableRuling) → table_ruling_status ruling ≡ status.Done → ruling ≡ Accepted
accepted_where_done Accepted is = refl
accepted_where_done (Rejected cause) is = absurd cc

-- src/answer.rt:28:1
pub returns-in-Ok-clause-claim : goal.returns-in-Ok-clause-claim
returns-in-Ok-clause-claim c =
    IfOk-weaker c.answer_ruling.result _ _ (λ reply is done.
    let accepted = accepted_where_done c.in-Ok.ruling (sym (ap (λ (r : PlainReply). r.status) is) ∙ done) in
    record {
      known = c.requires.known;
      joined = c.in-Ok.ensures.joined accepted;
      classes = c.in-Ok.ensures.classes accepted;
      apart = c.in-Ok.ensures.apart accepted;
    }) c.answer_ruling.ensures
