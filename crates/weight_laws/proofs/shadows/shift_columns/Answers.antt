use Rattle.grid_moves.specs.declared.step.Move.TheVariants.{ShiftColumns}
use Rattle.colour_weights.proofs.ShadowCarried.{step_keeps}
use Rattle.weight_laws.proofs.shadows.shift_columns.Goals as goal

pub returns : goal.returns
returns q = λ t d e k f outer cocycle step colouring below. step_keeps t cocycle d e (ShiftColumns k) step f colouring outer below
