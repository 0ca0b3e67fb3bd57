use Rattle.certificate_check.proofs.Decisions.{decision_by_verdict, held_decision}
use Rattle.certificate_check.proofs.laws.what_holds_is_a_decision.Goals as goal

pub returns-clause-decision : goal.returns-clause-decision
returns-clause-decision c = held_decision c.a_verdict_that_holds_is_a_decision.ensures.decision

pub returns-clause-verdict : goal.returns-clause-verdict
returns-clause-verdict c = decision_by_verdict
