use Rattle.grid_moves.specs.declared.step.Move.TheVariants.{Stabilise}
use Rattle.colour_weights.proofs.ShadowCarried.{step_keeps}
use Rattle.weight_laws.proofs.shadows.stabilise.Goals as goal

pub returns : goal.returns
returns q = λ t d e c kind corner f outer cocycle step colouring below. step_keeps t cocycle d e (Stabilise c kind corner) step f colouring outer below
