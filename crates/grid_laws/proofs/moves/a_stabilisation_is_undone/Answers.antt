use Rattle.grid_moves.proofs.Undone.{stabilise_back}
use Rattle.grid_laws.proofs.moves.a_stabilisation_is_undone.Goals as goal

pub returns : goal.returns
returns c = stabilise_back
