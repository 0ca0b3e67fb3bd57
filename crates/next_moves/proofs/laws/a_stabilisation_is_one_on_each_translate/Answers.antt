use Rattle.next_moves.proofs.MovesOnTranslates.{stabilisation_seen}
use Rattle.next_moves.proofs.laws.a_stabilisation_is_one_on_each_translate.Goals as goal

pub returns : goal.returns
returns c = stabilisation_seen
