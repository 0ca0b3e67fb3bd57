use Rattle.grid_moves.proofs.Undone.{step_undone}
use Rattle.grid_laws.proofs.moves.an_inverse_leads_back.Goals as goal

pub returns : goal.returns
returns c = λ move d e step. step_undone d move e step
