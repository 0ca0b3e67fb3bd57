use Rattle.cocycle_core.proofs.Computed.{computed, whole_at}
use Rattle.cocycle_core.proofs.FormulaLaw.{mochizuki_is}
use Rattle.cocycle_core.proofs.laws.mochizuki_is_a_shadow_cocycle.Goals as goal

pub returns-clause-cocycle : goal.returns-clause-cocycle
returns-clause-cocycle c = λ p prime most. mochizuki_is p prime most

pub returns-clause-whole : goal.returns-clause-whole
returns-clause-whole c = λ p y z prime most ly lz. whole_at p y z (computed p prime most) ly lz
