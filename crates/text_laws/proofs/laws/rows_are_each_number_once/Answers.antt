use Rattle.text_laws.proofs.RowsEach.{rows_exactly}
use Rattle.text_laws.proofs.laws.rows_are_each_number_once.Goals as goal

pub returns : goal.returns
returns c = rows_exactly
