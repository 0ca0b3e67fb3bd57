use Rattle.grid_moves.specs.declared.step.Move.TheVariants.{SlideColumns}
use Rattle.colour_weights.proofs.Carried.{step_keeps}
use Rattle.weight_laws.proofs.weights.slide_columns.Goals as goal

pub returns : goal.returns
returns q = λ w d e c f cocycle step colouring. step_keeps w cocycle d e (SlideColumns c) step f colouring
