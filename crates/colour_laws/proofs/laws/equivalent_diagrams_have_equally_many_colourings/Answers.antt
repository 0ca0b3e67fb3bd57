use Rattle.colour_laws.proofs.Counted.{equivalent_lengths}
use Rattle.colour_laws.proofs.laws.equivalent_diagrams_have_equally_many_colourings.Goals as goal

pub returns-clause-equal : goal.returns-clause-equal
returns-clause-equal c = λ t d e q equivalent. equivalent_lengths t q d e equivalent

pub returns-clause-different : goal.returns-clause-different
returns-clause-different c = λ t d e q differ equivalent. differ (equivalent_lengths t q d e equivalent)
