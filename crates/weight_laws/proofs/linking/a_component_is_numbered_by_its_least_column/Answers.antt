use Rattle.linking_core.proofs.ComponentNumbers.{component_joined, component_least}
use Rattle.weight_laws.proofs.linking.a_component_is_numbered_by_its_least_column.Goals as goal

pub returns-clause-of_it : goal.returns-clause-of_it
returns-clause-of_it c = λ d b grid lt. component_joined d grid b lt

pub returns-clause-least : goal.returns-clause-least
returns-clause-least c = λ d a b grid joined. component_least d grid a b joined
