use Rattle.colour_laws.proofs.BlockColours.{merged_colours}
use Rattle.colour_laws.proofs.laws.merged_columns_have_one_colour.Goals as goal

pub returns : goal.returns
returns c = λ t d e k r f q step colouring. merged_colours t q d e k r step f colouring
