use Rattle.grid_moves.proofs.Undone.{slide_columns_back, slide_rows_back}
use Rattle.grid_laws.proofs.moves.a_slide_undoes_itself.Goals as goal

pub returns-clause-columns : goal.returns-clause-columns
returns-clause-columns c = slide_columns_back

pub returns-clause-rows : goal.returns-clause-rows
returns-clause-rows c = slide_rows_back
