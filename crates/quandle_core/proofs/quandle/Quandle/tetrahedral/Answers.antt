use Rattle.quandle_core.proofs.Linear.{tetrahedral_is}
use Rattle.quandle_core.proofs.quandle.Quandle.tetrahedral.Goals as goal

pub of_table-requires-clause-laws : goal.of_table-requires-clause-laws
of_table-requires-clause-laws c = tetrahedral_is
