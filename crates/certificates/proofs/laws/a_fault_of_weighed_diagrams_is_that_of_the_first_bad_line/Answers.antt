use Rattle.certificates.proofs.WeighedFails.{weighed_fails}
use Rattle.certificates.proofs.laws.a_fault_of_weighed_diagrams_is_that_of_the_first_bad_line.Goals as goal

pub returns : goal.returns
returns c = weighed_fails
