use Rattle.knot_jobs.proofs.AcceptedBehind.{decided_truth}
use Rattle.knot_jobs.proofs.answer.answer.Goals as goal

pub returns-in-Decide-clause-claim : goal.returns-in-Decide-clause-claim
returns-in-Decide-clause-claim g c = decided_truth c.args.asked.now.job c.args.bytes.now c.answer.result c.in-Decide.is c.answer.ensures.claim
