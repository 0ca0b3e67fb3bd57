use Rattle.grid_moves.specs.declared.step.Move.TheVariants.{SlideColumns}
use Rattle.colour_weights.proofs.ShadowCarried.{step_keeps}
use Rattle.weight_laws.proofs.shadows.slide_columns.Goals as goal

pub returns : goal.returns
returns q = λ t d e c f outer cocycle step colouring below. step_keeps t cocycle d e (SlideColumns c) step f colouring outer below
