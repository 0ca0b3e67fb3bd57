use Rattle.grid_moves.proofs.Undone.{exchange_columns_back, exchange_rows_back}
use Rattle.grid_laws.proofs.moves.an_exchange_undoes_itself.Goals as goal

pub returns-clause-columns : goal.returns-clause-columns
returns-clause-columns c = exchange_columns_back

pub returns-clause-rows : goal.returns-clause-rows
returns-clause-rows c = exchange_rows_back
