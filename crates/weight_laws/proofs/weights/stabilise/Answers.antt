use Rattle.grid_moves.specs.declared.step.Move.TheVariants.{Stabilise}
use Rattle.colour_weights.proofs.Carried.{step_keeps}
use Rattle.weight_laws.proofs.weights.stabilise.Goals as goal

pub returns : goal.returns
returns q = λ w d e c kind corner f cocycle step colouring. step_keeps w cocycle d e (Stabilise c kind corner) step f colouring
