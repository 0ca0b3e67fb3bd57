use Rattle.code_rows.proofs.Pairs.{least_unpaired_is, all_paired}
use Rattle.code_rows.proofs.laws.the_edge_told_is_the_least.Goals as goal

pub returns-clause-some : goal.returns-clause-some
returns-clause-some c = λ all name e. least_unpaired_is all name e

pub returns-clause-none : goal.returns-clause-none
returns-clause-none c = λ all e k lt. all_paired all e k lt
