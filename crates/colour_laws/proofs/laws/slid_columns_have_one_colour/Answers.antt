use Rattle.colour_laws.proofs.SlideSteps.{slid_colours}
use Rattle.colour_laws.proofs.laws.slid_columns_have_one_colour.Goals as goal

pub returns : goal.returns
returns c = λ t d e k f q step colouring. slid_colours t q d e k step f colouring
