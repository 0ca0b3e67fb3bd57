use Rattle.certificate_check.proofs.Decisions.{written_true, accepted_true}
use Rattle.certificate_check.proofs.laws.what_is_accepted_is_true.Goals as goal

pub returns-clause-written : goal.returns-clause-written
returns-clause-written c = written_true

pub returns-clause-accepted : goal.returns-clause-accepted
returns-clause-accepted c = accepted_true
