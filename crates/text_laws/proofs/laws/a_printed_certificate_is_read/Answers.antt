use Rattle.knot_text.proofs.ReadBack.{certificate_read}
use Rattle.text_laws.proofs.laws.a_printed_certificate_is_read.Goals as goal

pub returns : goal.returns
returns c = certificate_read
