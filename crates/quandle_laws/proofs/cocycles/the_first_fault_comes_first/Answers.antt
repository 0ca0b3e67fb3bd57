use Rattle.quandle_laws.proofs.CocycleFaults.{found_is_first, first_is_found}
use Rattle.quandle_laws.proofs.cocycles.the_first_fault_comes_first.Goals as goal

pub returns : goal.returns
returns c = λ w fault. (found_is_first w fault, first_is_found w fault)
