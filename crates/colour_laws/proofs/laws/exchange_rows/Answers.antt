use Rattle.colour_laws.proofs.ExchangeSteps.{exchange_of_rows}
use Rattle.colour_laws.proofs.laws.exchange_rows.Goals as goal

pub returns : goal.returns
returns c = λ t d e r q step. exchange_of_rows t q d e r step
