use Rattle.seek_core.proofs.SaidInTurn.{said_in_turn}
use Rattle.seek_core.proofs.laws.joined_parts_say_what_each_says.Goals as goal

pub returns : goal.returns
returns c = said_in_turn
