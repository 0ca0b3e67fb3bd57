use Rattle.colour_laws.proofs.BlockColours.{stabilisation}
use Rattle.colour_laws.proofs.laws.stabilise.Goals as goal

pub returns : goal.returns
returns c = λ t d e k kind corner q step. stabilisation t q d e k kind corner step
