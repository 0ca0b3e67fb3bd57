use Rattle.next_moves.proofs.Complete.{neighbour_offered}
use Rattle.next_moves.proofs.laws.every_neighbour_is_offered.Goals as goal

pub returns : goal.returns
returns c = neighbour_offered
