use Rattle.grid_laws.proofs.ThreeLines.{columns_in_three, rows_in_three}
use Rattle.grid_laws.proofs.moves.what_slides_has_its_marks_in_three_lines.Goals as goal

pub returns-clause-columns : goal.returns-clause-columns
returns-clause-columns c = columns_in_three

pub returns-clause-rows : goal.returns-clause-rows
returns-clause-rows c = rows_in_three
