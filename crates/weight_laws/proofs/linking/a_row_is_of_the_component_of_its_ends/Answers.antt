use Rattle.linking_core.proofs.ComponentNumbers.{row_component_by_kind}
use Rattle.weight_laws.proofs.linking.a_row_is_of_the_component_of_its_ends.Goals as goal

pub returns : goal.returns
returns c = λ d kind r grid lt. row_component_by_kind d grid kind r lt
