-- A decision is accepted behind its problem by the job `check`.
use Rattle.std.proofs.Common.{◌≡◌, ◌≤◌, sym, refl, subst, ℕ, List, Result, IfOk, length}
use Rattle.std.proofs.lemmas.Result.{IfOk-weaker}
use Rattle.verdict_core.specs.declared.problem.ProblemText.{ProblemText}
use Rattle.text_items.specs.declared.fault.TextFault.{TextFault}
use Rattle.cert_check.specs.declared.ruling.Ruling.TheVariants.{Accepted}
use Rattle.knot_ports.specs.declared.limits.TheConstants.{MAX_CERTIFICATE}
use Rattle.number_text.specs.declared.said.Said.{Said}
use Rattle.number_text.specs.declared.said.Said.TheVariants as said
use Rattle.evidence_core.specs.declared.cause.NumberRuling.TheVariants as numbers
use Rattle.verdict_laws.specs.VerdictDecision.{put_behind}
use Rattle.certificate_check.specs.Decision.{IsWithinLimit, IsAccepted, IsDecision}
use Rattle.certificate_check.proofs.Decisions.{decision_by_verdict}
use Rattle.knot_words.specs.declared.job.Job.{Job}
use Rattle.knot_words.specs.declared.job.Job.TheVariants.{Decide}
use Rattle.search_jobs.specs.declared.reply.Reply.{Reply}
use Rattle.search_jobs.specs.Decide.{IsDecisionIfDone}
use Rattle.check_job.specs.Input.{Certificate, certificate_of}
use Rattle.check_job.specs.Answer.{AnswersCheck}
use Rattle.check_job.proofs.Read.{pair_read_so}
use Rattle.reply_text.specs.Lines.{ruling_line}
use Rattle.reply_text.specs.Reply.{done, AnswersRead}
use Rattle.knot_jobs.specs.ReplyTruth.{IsAcceptedByCheck, IsTrueIfDone}

-- what is read so is accepted
abbrev IsReplied : Result Certificate TextFault → Type 0
IsReplied read = AnswersRead AnswersCheck read (done (ruling_line Accepted))

within_limit : (bytes : List ℕ) (x : Said) → length bytes ≤ MAX_CERTIFICATE → IsWithinLimit bytes x
within_limit bytes (said.Verdict v) fits = fits
within_limit bytes (said.Evidence x) fits = tt

replied : (bytes : List ℕ) (p : ProblemText) (x : Said) → IsAccepted bytes p x → IsReplied (certificate_of bytes)
replied bytes p (said.Verdict v) accepted =
    subst IsReplied (sym (pair_read_so bytes (p, said.Verdict v) accepted.read)) (record { ruling = Accepted; rules = accepted.rules; is = refl })
replied bytes p (said.Evidence x) accepted =
    subst IsReplied (sym (pair_read_so bytes (p, said.Evidence x) accepted.read)) (record { ruling = numbers.Accepted; rules = accepted.rules; is = refl })

pub accepted_by_check : (bytes text : List ℕ) → IsDecision bytes text → IsAcceptedByCheck bytes text
accepted_by_check bytes text decision = λ fits.
    let whole = put_behind bytes text in
    replied whole decision.problem decision.statement (decision.accepted (within_limit whole decision.statement fits))

-- ---- what `decide` replies

decided_is_true : (bytes : List ℕ) (reply : Reply) → IsDecisionIfDone bytes reply → IsTrueIfDone Decide bytes reply
decided_is_true bytes reply decided = λ done.
    let decision = decided done in
    record { decision = decision; accepted = accepted_by_check bytes reply.text (decision_by_verdict bytes reply.text decision) }

-- where `decide` is the job that is asked for
pub decided_truth : {E : Type 0} (job : Job) (bytes : List ℕ) (r : Result Reply E) → job ≡ Decide → IfOk r (λ reply. IsDecisionIfDone bytes reply)
    → IfOk r (λ reply. IsTrueIfDone job bytes reply)
decided_truth job bytes r is decided =
    IfOk-weaker r _ _ (λ reply d. subst (λ (j : Job). IsTrueIfDone j bytes reply) (sym is) (decided_is_true bytes reply d)) decided
