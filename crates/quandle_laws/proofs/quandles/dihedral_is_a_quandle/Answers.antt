use Rattle.quandle_core.proofs.Linear.{dihedral_is}
use Rattle.quandle_laws.proofs.quandles.dihedral_is_a_quandle.Goals as goal

pub returns : goal.returns
returns c = dihedral_is
