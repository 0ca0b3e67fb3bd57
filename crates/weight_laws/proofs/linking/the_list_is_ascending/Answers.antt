use Rattle.linking_core.specs.Linking.{linking_numbers}
use Rattle.weight_laws.proofs.Order.{ascending_moves, ascending_rises}
use Rattle.weight_laws.proofs.linking.the_list_is_ascending.Goals as goal

pub returns-clause-same : goal.returns-clause-same
returns-clause-same c = λ d. ascending_moves (linking_numbers d)

pub returns-clause-ascending : goal.returns-clause-ascending
returns-clause-ascending c = λ d. ascending_rises (linking_numbers d)
