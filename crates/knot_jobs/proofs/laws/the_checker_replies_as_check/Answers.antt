use Rattle.knot_jobs.proofs.Endings.{same_as_check}
use Rattle.knot_jobs.proofs.laws.the_checker_replies_as_check.Goals as goal

pub returns : goal.returns
returns c = same_as_check
