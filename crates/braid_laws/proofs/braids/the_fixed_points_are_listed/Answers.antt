use Rattle.braid_laws.proofs.Listed.{listed_fixed, fixed_listed, fixed_in_order}
use Rattle.braid_laws.proofs.braids.the_fixed_points_are_listed.Goals as goal

pub returns-clause-all : goal.returns-clause-all
returns-clause-all c = λ t b xs. (listed_fixed t b xs, fixed_listed t b xs)

pub returns-clause-order : goal.returns-clause-order
returns-clause-order c = fixed_in_order
