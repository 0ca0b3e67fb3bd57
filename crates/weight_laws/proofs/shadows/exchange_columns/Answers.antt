use Rattle.grid_moves.specs.declared.step.Move.TheVariants.{ExchangeColumns}
use Rattle.colour_weights.proofs.ShadowCarried.{step_keeps}
use Rattle.weight_laws.proofs.shadows.exchange_columns.Goals as goal

pub returns : goal.returns
returns q = λ t d e c f outer cocycle step colouring below. step_keeps t cocycle d e (ExchangeColumns c) step f colouring outer below
