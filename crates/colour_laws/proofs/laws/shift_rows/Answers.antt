use Rattle.colour_laws.proofs.RowShiftSteps.{shift_of_rows}
use Rattle.colour_laws.proofs.laws.shift_rows.Goals as goal

pub returns : goal.returns
returns c = λ t d e k q step. shift_of_rows t q d e k step
