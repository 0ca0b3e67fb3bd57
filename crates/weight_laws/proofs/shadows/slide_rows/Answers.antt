use Rattle.grid_moves.specs.declared.step.Move.TheVariants.{SlideRows}
use Rattle.colour_weights.proofs.ShadowCarried.{step_keeps}
use Rattle.weight_laws.proofs.shadows.slide_rows.Goals as goal

pub returns : goal.returns
returns q = λ t d e r f outer cocycle step colouring below. step_keeps t cocycle d e (SlideRows r) step f colouring outer below
