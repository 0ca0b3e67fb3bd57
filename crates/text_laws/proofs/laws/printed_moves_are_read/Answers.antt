use Rattle.knot_text.proofs.ReadBack.{moves_read}
use Rattle.text_laws.proofs.laws.printed_moves_are_read.Goals as goal

pub returns : goal.returns
returns c = moves_read
