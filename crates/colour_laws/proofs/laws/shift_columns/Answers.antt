use Rattle.colour_laws.proofs.ShiftSteps.{shift_of_columns}
use Rattle.colour_laws.proofs.laws.shift_columns.Goals as goal

pub returns : goal.returns
returns c = λ t d e k q step. shift_of_columns t q d e k step
