use Rattle.colour_laws.proofs.BlockColours.{destabilisation}
use Rattle.colour_laws.proofs.laws.destabilise.Goals as goal

pub returns : goal.returns
returns c = λ t d e k r q step. destabilisation t q d e k r step
