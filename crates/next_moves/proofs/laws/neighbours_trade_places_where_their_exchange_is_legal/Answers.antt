use Rattle.next_moves.proofs.Legal.{column_trades_by_lanes, row_trades_by_lanes}
use Rattle.next_moves.proofs.laws.neighbours_trade_places_where_their_exchange_is_legal.Goals as goal

pub returns-clause-columns : goal.returns-clause-columns
returns-clause-columns c = column_trades_by_lanes

pub returns-clause-rows : goal.returns-clause-rows
returns-clause-rows c = row_trades_by_lanes
