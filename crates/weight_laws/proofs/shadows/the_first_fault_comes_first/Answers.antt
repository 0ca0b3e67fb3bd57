use Rattle.weight_laws.proofs.ShadowFaults.{found_is_first, first_is_found}
use Rattle.weight_laws.proofs.shadows.the_first_fault_comes_first.Goals as goal

pub returns : goal.returns
returns c = λ t fault. (found_is_first t fault, first_is_found t fault)
