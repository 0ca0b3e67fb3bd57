use Rattle.next_moves.proofs.Closed.{closed_is_all}
use Rattle.next_moves.proofs.laws.a_closed_list_of_what_is_reached_is_all_of_it.Goals as goal

pub returns : goal.returns
returns c = closed_is_all
