use Rattle.colour_weights.proofs.Carried.{step_keeps}
use Rattle.weight_laws.proofs.weights.every_move_keeps_the_weight.Goals as goal

pub returns : goal.returns
returns c = λ w d e move f cocycle step colouring. step_keeps w cocycle d e move step f colouring
