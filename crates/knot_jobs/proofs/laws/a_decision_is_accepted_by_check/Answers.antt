use Rattle.knot_jobs.proofs.AcceptedBehind.{accepted_by_check}
use Rattle.knot_jobs.proofs.laws.a_decision_is_accepted_by_check.Goals as goal

pub returns : goal.returns
returns c = accepted_by_check
