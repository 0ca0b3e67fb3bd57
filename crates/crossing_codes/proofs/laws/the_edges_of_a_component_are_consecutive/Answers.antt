use Rattle.crossing_codes.specs.Components.{component_starts}
use Rattle.crossing_codes.proofs.EdgeLaws.{has_contained, edges_of_round}
use Rattle.crossing_codes.proofs.laws.the_edges_of_a_component_are_consecutive.Goals as goal

pub returns-clause-comes : goal.returns-clause-comes
returns-clause-comes c = λ d s grid h. (edges_of_round d grid s (has_contained (component_starts d) s h)).0

pub returns-clause-leads : goal.returns-clause-leads
returns-clause-leads c = λ d s grid h. (edges_of_round d grid s (has_contained (component_starts d) s h)).1
