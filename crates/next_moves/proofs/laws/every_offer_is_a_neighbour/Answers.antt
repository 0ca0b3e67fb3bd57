use Rattle.next_moves.proofs.Complete.{offer_is_neighbour}
use Rattle.next_moves.proofs.laws.every_offer_is_a_neighbour.Goals as goal

pub returns : goal.returns
returns c = offer_is_neighbour
