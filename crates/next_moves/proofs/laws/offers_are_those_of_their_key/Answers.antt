use Rattle.next_moves.proofs.Closed.{whole_of_key}
use Rattle.next_moves.proofs.laws.offers_are_those_of_their_key.Goals as goal

pub returns : goal.returns
returns c = whole_of_key
