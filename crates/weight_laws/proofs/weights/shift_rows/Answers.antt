use Rattle.grid_moves.specs.declared.step.Move.TheVariants.{ShiftRows}
use Rattle.colour_weights.proofs.Carried.{step_keeps}
use Rattle.weight_laws.proofs.weights.shift_rows.Goals as goal

pub returns : goal.returns
returns q = λ w d e k f cocycle step colouring. step_keeps w cocycle d e (ShiftRows k) step f colouring
