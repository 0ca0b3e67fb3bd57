use Rattle.grid_core.proofs.Marks.{column_mark, column_is}
use Rattle.grid_laws.proofs.diagrams.a_row_has_one_mark_of_a_kind.Goals as goal

pub returns-clause-one : goal.returns-clause-one
returns-clause-one c = column_mark

pub returns-clause-single : goal.returns-clause-single
returns-clause-single c = column_is
