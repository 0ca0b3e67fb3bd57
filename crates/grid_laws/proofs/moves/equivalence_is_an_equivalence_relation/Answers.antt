use Rattle.grid_moves.proofs.Equivalence.{equivalent_same, equivalent_back, equivalent_after}
use Rattle.grid_laws.proofs.moves.equivalence_is_an_equivalence_relation.Goals as goal

pub returns-clause-reflexive : goal.returns-clause-reflexive
returns-clause-reflexive c = equivalent_same

pub returns-clause-symmetric : goal.returns-clause-symmetric
returns-clause-symmetric c = equivalent_back

pub returns-clause-transitive : goal.returns-clause-transitive
returns-clause-transitive c = equivalent_after
