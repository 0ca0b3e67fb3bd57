use Rattle.next_moves.proofs.Closed.{closed_has_all}
use Rattle.next_moves.proofs.laws.what_is_closed_under_neighbours_has_all_that_moves_reach.Goals as goal

pub returns : goal.returns
returns c = closed_has_all
