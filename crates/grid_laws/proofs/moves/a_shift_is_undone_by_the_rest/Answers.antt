use Rattle.grid_moves.proofs.Undone.{shift_columns_back, shift_rows_back}
use Rattle.grid_laws.proofs.moves.a_shift_is_undone_by_the_rest.Goals as goal

pub returns-clause-columns : goal.returns-clause-columns
returns-clause-columns c = shift_columns_back

pub returns-clause-rows : goal.returns-clause-rows
returns-clause-rows c = shift_rows_back
