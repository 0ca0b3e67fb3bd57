use Rattle.seek_core.proofs.AllKinds.{trivial_there, tetrahedral_there, dihedral_there, alexander_there, no_other}
use Rattle.seek_core.proofs.laws.quandles_by_formula_are_all_of_their_kinds.Goals as goal

pub returns-clause-trivial : goal.returns-clause-trivial
returns-clause-trivial c = trivial_there

pub returns-clause-tetrahedral : goal.returns-clause-tetrahedral
returns-clause-tetrahedral c = tetrahedral_there

pub returns-clause-dihedral : goal.returns-clause-dihedral
returns-clause-dihedral c = dihedral_there

pub returns-clause-alexander : goal.returns-clause-alexander
returns-clause-alexander c = alexander_there

pub returns-clause-only : goal.returns-clause-only
returns-clause-only c = no_other
