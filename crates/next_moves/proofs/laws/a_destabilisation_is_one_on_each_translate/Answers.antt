use Rattle.next_moves.proofs.MovesOnTranslates.{destabilisation_seen}
use Rattle.next_moves.proofs.laws.a_destabilisation_is_one_on_each_translate.Goals as goal

pub returns : goal.returns
returns c = destabilisation_seen
