use Rattle.quandle_laws.proofs.QuandleFaults.{found_is_first, first_is_found}
use Rattle.quandle_laws.proofs.quandles.the_first_fault_comes_first.Goals as goal

pub returns : goal.returns
returns c = λ most t fault. (found_is_first most t fault, first_is_found most t fault)
