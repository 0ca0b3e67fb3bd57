use Rattle.quandle_core.proofs.Linear.{tetrahedral_is}
use Rattle.quandle_laws.proofs.quandles.tetrahedral_is_a_quandle.Goals as goal

pub returns : goal.returns
returns c = tetrahedral_is
