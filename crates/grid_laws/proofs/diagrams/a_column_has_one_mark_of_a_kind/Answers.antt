use Rattle.grid_core.proofs.Marks.{mark_below}
use Rattle.grid_laws.proofs.diagrams.a_column_has_one_mark_of_a_kind.Goals as goal

pub returns-clause-below : goal.returns-clause-below
returns-clause-below c = mark_below
