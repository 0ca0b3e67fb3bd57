use Rattle.knot_text.proofs.ReadBack.{grid_read}
use Rattle.text_laws.proofs.laws.a_printed_grid_is_read.Goals as goal

pub returns : goal.returns
returns c = grid_read
