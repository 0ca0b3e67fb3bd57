use Rattle.knot_text.proofs.Steady.{stable}
use Rattle.number_text.specs.Shadows.{shadow_item}
use Rattle.certificates.proofs.ShadowSteady.{shadow_steady}
use Rattle.certificates.proofs.laws.a_shadow_cocycle_is_read_whatever_stands_behind.Goals as goal

pub returns : goal.returns
returns c = λ q. stable (shadow_item q) (shadow_steady q)
