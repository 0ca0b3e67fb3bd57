use Rattle.colour_laws.proofs.SlideSteps.{slide_of_columns}
use Rattle.colour_laws.proofs.laws.slide_columns.Goals as goal

pub returns : goal.returns
returns c = λ t d e k q step. slide_of_columns t q d e k step
