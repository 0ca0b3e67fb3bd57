use Rattle.grid_moves.specs.declared.step.Move.TheVariants.{Destabilise}
use Rattle.grid_laws.proofs.OneStabilisation.{undone_by, one_stabilisation}
use Rattle.grid_moves.proofs.OneResult.{moved, moved_step}
use Rattle.grid_laws.proofs.moves.a_block_comes_from_one_stabilisation.Goals as goal

pub returns-clause-one : goal.returns-clause-one
returns-clause-one c = λ b r d grid legal. (moved (Destabilise b r) d, undone_by b r d (moved (Destabilise b r) d) (moved_step d (Destabilise b r) grid legal))

pub returns-clause-single : goal.returns-clause-single
returns-clause-single c = one_stabilisation
