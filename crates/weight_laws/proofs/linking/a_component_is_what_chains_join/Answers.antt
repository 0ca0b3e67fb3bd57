use Rattle.linking_core.proofs.ComponentNumbers.{same_component_joined, joined_component}
use Rattle.weight_laws.proofs.linking.a_component_is_what_chains_join.Goals as goal

pub returns : goal.returns
returns c = λ d a b grid in_a in_b. ((λ same. same_component_joined d grid a b in_a in_b same), λ joined. joined_component d grid a b joined)
