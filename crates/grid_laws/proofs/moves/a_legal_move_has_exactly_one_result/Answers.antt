use Rattle.grid_moves.proofs.OneResult.{step_exists, step_legal, step_once}
use Rattle.grid_laws.proofs.moves.a_legal_move_has_exactly_one_result.Goals as goal

pub returns-clause-one : goal.returns-clause-one
returns-clause-one c = step_exists

pub returns-clause-legal : goal.returns-clause-legal
returns-clause-legal c = step_legal

pub returns-clause-single : goal.returns-clause-single
returns-clause-single c = step_once

pub returns-clause-grid : goal.returns-clause-grid
returns-clause-grid c = λ d move e step. step.after
