use Rattle.colour_numbers.proofs.SameNumbers.{same_numbers}
use Rattle.weight_laws.proofs.numbers.equivalent_diagrams_have_equal_numbers.Goals as goal

pub returns-clause-equal : goal.returns-clause-equal
returns-clause-equal c = same_numbers

pub returns-clause-different : goal.returns-clause-different
returns-clause-different c = λ t o d e quandle cocycle differ joined. differ (same_numbers t o d e quandle cocycle joined)
