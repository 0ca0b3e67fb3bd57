use Rattle.colour_weights.proofs.Counted.{equivalent_weights}
use Rattle.weight_laws.proofs.weights.equivalent_diagrams_have_equal_weights.Goals as goal

pub returns-clause-equal : goal.returns-clause-equal
returns-clause-equal c = λ w d e cocycle equivalent. equivalent_weights w cocycle d e equivalent

pub returns-clause-different : goal.returns-clause-different
returns-clause-different c = λ w d e cocycle differ equivalent. differ (equivalent_weights w cocycle d e equivalent)
