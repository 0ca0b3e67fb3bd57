use Rattle.certificates.proofs.ShadowAgain.{shadow_read}
use Rattle.certificates.proofs.laws.a_printed_shadow_cocycle_is_read.Goals as goal

pub returns : goal.returns
returns c = shadow_read
