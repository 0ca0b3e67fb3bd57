use Rattle.certificates.proofs.EvidenceFails.{said_fails}
use Rattle.certificates.proofs.laws.a_fault_of_what_is_said_is_that_of_the_first_bad_line.Goals as goal

pub returns : goal.returns
returns c = said_fails
