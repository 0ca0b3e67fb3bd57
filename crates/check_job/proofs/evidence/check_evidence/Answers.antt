use Rattle.std.proofs.Common.{◌≡◌, ◌↔◌, IfOk, subst}
use Rattle.grid_core.specs.Diagram.{Diagram}
use Rattle.verdict_core.specs.Diagrams.{grid_of}
use Rattle.evidence_core.specs.declared.cause.NumberRuling.TheVariants.{Accepted}
use Rattle.number_check.specs.EvidenceHolds.{EvidenceHolds}
use Rattle.check_job.proofs.evidence.check_evidence.Goals as goal

pub returns-clause-accepted : goal.returns-clause-accepted
returns-clause-accepted c =
    let stands : Diagram → Diagram → Type 0 = λ d e. IfOk c.rule.result (λ r. (r ≡ Accepted) ↔ EvidenceHolds d e c.args.evidence.now) in
    subst (λ (d : Diagram). stands d (grid_of c.args.problem.now.second)) c.grid-first.ensures
    (subst (λ (e : Diagram). stands c.grid-first.result e) c.grid-second.ensures c.rule.ensures.accepted)
