use Rattle.next_moves.proofs.MovesOnTranslates.{exchange_of_columns_seen, exchange_of_rows_seen}
use Rattle.next_moves.proofs.laws.an_exchange_is_one_on_each_translate.Goals as goal

pub returns-clause-columns : goal.returns-clause-columns
returns-clause-columns c = exchange_of_columns_seen

pub returns-clause-rows : goal.returns-clause-rows
returns-clause-rows c = exchange_of_rows_seen
