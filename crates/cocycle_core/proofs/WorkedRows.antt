-- The formula of order 3, beside the table of specs/Mochizuki.antt.
use Rattle.std.proofs.Common.{◌≡◌, refl}
use Rattle.cocycle_core.specs.Mochizuki as worked
use Rattle.cocycle_core.specs.Formula.{mochizuki}

three : mochizuki 3 ≡ worked.mochizuki_three
three = refl
