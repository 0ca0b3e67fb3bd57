use Rattle.cocycle_core.proofs.Accepted.{cocycle_from_none, none_from_cocycle}
use Rattle.quandle_laws.proofs.cocycles.no_fault_is_a_cocycle.Goals as goal

pub returns : goal.returns
returns c = λ w q. (λ none. cocycle_from_none w q none, λ cocycle. none_from_cocycle w cocycle)
