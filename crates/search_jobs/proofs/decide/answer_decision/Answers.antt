use Rattle.std.proofs.Common.{ap, sym, refl, ◌∙◌, subst}
use Rattle.std.proofs.lemmas.Result.{IfOk-at_ok}
use Rattle.verdict_core.specs.Diagrams.{grid_of}
use Rattle.verdict_core.specs.Evidence.{Claims, VerdictHolds, HasEvidence, IsTidyVerdict}
use Rattle.pair_verdict.specs.declared.decision.Decision.{Decision}
use Rattle.pair_verdict.specs.Decided.{Decides}
use Rattle.search_jobs.specs.declared.reply.Reply.{Reply}
use Rattle.search_jobs.specs.Decide.{problem_for}
use Rattle.search_jobs.proofs.Decisions.{has_evidence}
use Rattle.verdict_text.specs.declared.verdicts.Version.TheVariants.{Tidy}
use Rattle.knot_text.specs.Printed.{version_text}
use Rattle.verdict_laws.specs.VerdictDecision.{IsDecisionByVerdict}
use Rattle.verdict_laws.proofs.AcceptedBehind.{accepted_behind}
use Rattle.search_jobs.proofs.ReadProblems.{has_text}
use Rattle.search_jobs.proofs.decide.answer_decision.Goals as goal

pub print_verdict-requires : goal.print_verdict-requires
print_verdict-requires c = IfOk-at_ok (λ (d : Decision). IsTidyVerdict d.verdict) c.in-Ok.is c.requires.tidy

pub returns-clause-claim : goal.returns-clause-claim
returns-clause-claim c = λ bytes read done.
    let input = c.args.input.now in
    let asked = c.args.asked.now in
    let v = c.in-Ok.decision.verdict in
    let kept = c.in-Ok.decision.kept in
    let evidence = has_evidence v (sym (ap (λ (r : Reply). r.status) c.reply_of.ensures) ∙ done) in
    let first = grid_of input.first in
    let second = grid_of input.second in
    let holds = IfOk-at_ok (λ (d : Decision). HasEvidence d.verdict → VerdictHolds first second d.verdict) c.in-Ok.is c.requires.holds evidence in
    let p = problem_for asked first second in
    let decides = IfOk-at_ok (λ (d : Decision). Decides p input.quandles asked.workers d.verdict d.kept) c.in-Ok.is c.requires.decides in
    let claims = IfOk-at_ok (λ (d : Decision). Claims first second d.verdict) c.in-Ok.is c.requires.claims in
    let text = has_text c.a_decision_has_a_text.ensures bytes asked input asked.workers v kept read decides in
    let printed = ap (λ (r : Reply). r.text) c.reply_of.ensures ∙ c.in-Ok-print_verdict.ensures in
    let written = version_text Tidy v in
    let decision : IsDecisionByVerdict bytes written = record {
      problem = input;
      read = read;
      verdict = v;
      is = refl;
      evidence = evidence;
      holds = holds;
      is_true = claims;
      accepted = accepted_behind bytes input v read text holds;
    } in
    subst (IsDecisionByVerdict bytes) (sym printed) decision
