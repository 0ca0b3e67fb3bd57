use Rattle.knot_text.proofs.ReadBack.{verdict_read}
use Rattle.text_laws.proofs.laws.a_printed_verdict_is_read.Goals as goal

pub returns : goal.returns
returns c = verdict_read
