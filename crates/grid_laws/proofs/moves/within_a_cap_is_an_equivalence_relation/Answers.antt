use Rattle.grid_moves.proofs.Within.{within_cap_same, within_cap_back, within_cap_after, within_cap_equivalent}
use Rattle.grid_laws.proofs.moves.within_a_cap_is_an_equivalence_relation.Goals as goal

pub returns-clause-reflexive : goal.returns-clause-reflexive
returns-clause-reflexive c = within_cap_same

pub returns-clause-symmetric : goal.returns-clause-symmetric
returns-clause-symmetric c = within_cap_back

pub returns-clause-transitive : goal.returns-clause-transitive
returns-clause-transitive c = within_cap_after

pub returns-clause-equivalent : goal.returns-clause-equivalent
returns-clause-equivalent c = within_cap_equivalent
