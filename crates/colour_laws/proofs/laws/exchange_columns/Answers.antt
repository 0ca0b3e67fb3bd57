use Rattle.colour_laws.proofs.ColumnExchangeSteps.{exchange_of_columns}
use Rattle.colour_laws.proofs.laws.exchange_columns.Goals as goal

pub returns : goal.returns
returns c = λ t d e k q step. exchange_of_columns t q d e k step
