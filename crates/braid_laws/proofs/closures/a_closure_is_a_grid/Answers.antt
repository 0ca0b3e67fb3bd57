use Rattle.braid_closure.proofs.Grids.{closure_grid, size_closure}
use Rattle.braid_laws.proofs.closures.a_closure_is_a_grid.Goals as goal

pub returns-clause-grid : goal.returns-clause-grid
returns-clause-grid c = closure_grid

pub returns-clause-size : goal.returns-clause-size
returns-clause-size c = size_closure
