use Rattle.next_moves.proofs.MovesOnTranslates.{slide_of_columns_seen, slide_of_rows_seen}
use Rattle.next_moves.proofs.laws.a_slide_is_one_on_each_translate.Goals as goal

pub returns-clause-columns : goal.returns-clause-columns
returns-clause-columns c = slide_of_columns_seen

pub returns-clause-rows : goal.returns-clause-rows
returns-clause-rows c = slide_of_rows_seen
