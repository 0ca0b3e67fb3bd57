use Rattle.grid_core.proofs.Marks.{same_marks}
use Rattle.grid_laws.proofs.diagrams.a_grid_is_the_set_of_its_marks.Goals as goal

pub returns : goal.returns
returns c = same_marks
