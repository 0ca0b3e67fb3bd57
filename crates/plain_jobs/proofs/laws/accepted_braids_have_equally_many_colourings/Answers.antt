use Rattle.plain_jobs.proofs.EquallyMany.{accepted_equally}
use Rattle.plain_jobs.proofs.laws.accepted_braids_have_equally_many_colourings.Goals as goal

pub returns : goal.returns
returns c = accepted_equally
