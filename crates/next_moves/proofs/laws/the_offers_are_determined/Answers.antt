use Rattle.next_moves.proofs.Determined.{link_once, list_once}
use Rattle.next_moves.proofs.laws.the_offers_are_determined.Goals as goal

pub returns-clause-link : goal.returns-clause-link
returns-clause-link c = link_once

pub returns-clause-list : goal.returns-clause-list
returns-clause-list c = list_once
