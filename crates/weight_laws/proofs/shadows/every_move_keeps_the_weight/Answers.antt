use Rattle.colour_weights.proofs.ShadowCarried.{step_keeps}
use Rattle.weight_laws.proofs.shadows.every_move_keeps_the_weight.Goals as goal

pub returns : goal.returns
returns q = λ t d e move f outer cocycle step colouring below. step_keeps t cocycle d e move step f colouring outer below
