use Rattle.grid_core.proofs.Marks.{marks_of_grid, grid_of_marks}
use Rattle.grid_laws.proofs.diagrams.a_grid_by_its_marks.Goals as goal

pub returns : goal.returns
returns c = λ d. (marks_of_grid d, grid_of_marks d)
