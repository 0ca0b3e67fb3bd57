use Rattle.grid_moves.specs.declared.step.Move.TheVariants.{SlideRows}
use Rattle.colour_weights.proofs.Carried.{step_keeps}
use Rattle.weight_laws.proofs.weights.slide_rows.Goals as goal

pub returns : goal.returns
returns q = λ w d e r f cocycle step colouring. step_keeps w cocycle d e (SlideRows r) step f colouring
