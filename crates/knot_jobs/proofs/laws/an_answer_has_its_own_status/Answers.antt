use Rattle.knot_jobs.proofs.OneAnswer.{answer_status}
use Rattle.knot_jobs.proofs.laws.an_answer_has_its_own_status.Goals as goal

pub returns : goal.returns
returns c = answer_status
