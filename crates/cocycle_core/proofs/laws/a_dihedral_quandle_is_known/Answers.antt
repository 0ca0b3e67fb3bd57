use Rattle.cocycle_core.proofs.Reflections.{dihedral_known, passes_dihedral}
use Rattle.cocycle_core.proofs.laws.a_dihedral_quandle_is_known.Goals as goal

pub returns : goal.returns
returns c = λ t q. (dihedral_known t q, passes_dihedral t)
