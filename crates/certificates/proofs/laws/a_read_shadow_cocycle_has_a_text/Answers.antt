use Rattle.certificates.proofs.ShadowSays.{shadow_says}
use Rattle.certificates.proofs.laws.a_read_shadow_cocycle_has_a_text.Goals as goal

pub returns : goal.returns
returns c = λ q s text rest quandle read. (shadow_says q text quandle).of (s, rest) read
