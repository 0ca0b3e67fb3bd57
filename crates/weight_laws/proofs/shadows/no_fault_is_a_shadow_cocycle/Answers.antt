use Rattle.cocycle_core.proofs.ShadowAccepted.{cocycle_from_none, none_from_cocycle}
use Rattle.weight_laws.proofs.shadows.no_fault_is_a_shadow_cocycle.Goals as goal

pub returns : goal.returns
returns c = λ t q. (λ none. cocycle_from_none t q none, λ cocycle. none_from_cocycle t cocycle)
