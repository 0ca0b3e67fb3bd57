use Rattle.colour_laws.proofs.SlideSteps.{slide_of_rows}
use Rattle.colour_laws.proofs.laws.slide_rows.Goals as goal

pub returns : goal.returns
returns c = λ t d e k q step. slide_of_rows t q d e k step
