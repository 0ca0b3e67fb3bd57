use Rattle.grid_moves.specs.declared.step.Move.TheVariants.{ExchangeColumns}
use Rattle.colour_weights.proofs.Carried.{step_keeps}
use Rattle.weight_laws.proofs.weights.exchange_columns.Goals as goal

pub returns : goal.returns
returns q = λ w d e c f cocycle step colouring. step_keeps w cocycle d e (ExchangeColumns c) step f colouring
