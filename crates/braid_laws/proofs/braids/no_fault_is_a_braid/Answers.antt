use Rattle.braid_core.proofs.Accepted.{none_braid, braid_none}
use Rattle.braid_laws.proofs.braids.no_fault_is_a_braid.Goals as goal

pub returns : goal.returns
returns c = λ b. (none_braid b, braid_none b)
