use Rattle.grid_moves.specs.declared.step.Move.TheVariants.{Destabilise}
use Rattle.colour_weights.proofs.ShadowCarried.{step_keeps}
use Rattle.weight_laws.proofs.shadows.destabilise.Goals as goal

pub returns : goal.returns
returns q = λ t d e c r f outer cocycle step colouring below. step_keeps t cocycle d e (Destabilise c r) step f colouring outer below
