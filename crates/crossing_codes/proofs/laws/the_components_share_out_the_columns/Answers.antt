use Rattle.crossing_codes.specs.Components.{component, component_starts}
use Rattle.crossing_codes.proofs.SharedColumns.{start_least}
use Rattle.crossing_codes.proofs.EdgeLaws.{has_contained, columns_shared}
use Rattle.crossing_codes.proofs.laws.the_components_share_out_the_columns.Goals as goal

pub returns-clause-each : goal.returns-clause-each
returns-clause-each c = columns_shared

pub returns-clause-least : goal.returns-clause-least
returns-clause-least c = λ d s k h member. start_least d s k (has_contained (component_starts d) s h) (has_contained (component d s) k member)
