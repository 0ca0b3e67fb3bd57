use Rattle.colour_weights.proofs.ShadowCounted.{equivalent_weights}
use Rattle.weight_laws.proofs.shadows.equivalent_diagrams_have_equal_shadow_weights.Goals as goal

pub returns-clause-equal : goal.returns-clause-equal
returns-clause-equal c = λ t d e cocycle equivalent. equivalent_weights t cocycle d e equivalent

pub returns-clause-different : goal.returns-clause-different
returns-clause-different c = λ t d e cocycle differ equivalent. differ (equivalent_weights t cocycle d e equivalent)
