use Rattle.next_moves.proofs.Offered.{trades_offered, blocks_offered, stabilisations_offered}
use Rattle.next_moves.proofs.laws.how_many_tries_are_offered.Goals as goal

pub returns-clause-trades : goal.returns-clause-trades
returns-clause-trades c = trades_offered

pub returns-clause-destabilisations : goal.returns-clause-destabilisations
returns-clause-destabilisations c = blocks_offered

pub returns-clause-stabilisations : goal.returns-clause-stabilisations
returns-clause-stabilisations c = stabilisations_offered
