use Rattle.std.proofs.Common.{sym}
use Rattle.grid_moves.specs.declared.step.Move.TheVariants.{ExchangeColumns}
use Rattle.linking_core.proofs.Steps.{step_alike}
use Rattle.weight_laws.proofs.linking.exchange_columns.Goals as goal

pub returns-clause-components : goal.returns-clause-components
returns-clause-components c = λ d e b step. sym (step_alike d e (ExchangeColumns b) step).number

pub returns-clause-list : goal.returns-clause-list
returns-clause-list c = λ d e b step. sym (step_alike d e (ExchangeColumns b) step).list
