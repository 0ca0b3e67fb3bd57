use Rattle.grid_moves.specs.declared.step.Move.TheVariants.{Destabilise}
use Rattle.colour_weights.proofs.Carried.{step_keeps}
use Rattle.weight_laws.proofs.weights.destabilise.Goals as goal

pub returns : goal.returns
returns q = λ w d e c r f cocycle step colouring. step_keeps w cocycle d e (Destabilise c r) step f colouring
