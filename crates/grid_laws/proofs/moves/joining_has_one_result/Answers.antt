use Rattle.grid_moves.proofs.Stopped.{joins_once}
use Rattle.grid_moves.proofs.Within.{joins_grid}
use Rattle.grid_laws.proofs.moves.joining_has_one_result.Goals as goal

pub returns-clause-single : goal.returns-clause-single
returns-clause-single c = joins_once

pub returns-clause-grid : goal.returns-clause-grid
returns-clause-grid c = joins_grid
