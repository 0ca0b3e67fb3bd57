use Rattle.seek_core.proofs.LinesInTurn.{joined_in_turn}
use Rattle.seek_core.proofs.laws.joined_parts_have_the_lines_of_each.Goals as goal

pub returns : goal.returns
returns c = joined_in_turn
