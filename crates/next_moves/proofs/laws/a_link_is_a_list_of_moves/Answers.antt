use Rattle.next_moves.proofs.Linked.{link_joined, link_joined_within}
use Rattle.next_moves.proofs.laws.a_link_is_a_list_of_moves.Goals as goal

pub returns-clause-joined : goal.returns-clause-joined
returns-clause-joined c = link_joined

pub returns-clause-within : goal.returns-clause-within
returns-clause-within c = link_joined_within
