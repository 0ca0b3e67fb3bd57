use Rattle.next_moves.proofs.Legal.{column_lane, row_lane}
use Rattle.next_moves.proofs.laws.spans_are_those_of_the_diagram.Goals as goal

pub returns-clause-columns : goal.returns-clause-columns
returns-clause-columns c = column_lane

pub returns-clause-rows : goal.returns-clause-rows
returns-clause-rows c = row_lane
