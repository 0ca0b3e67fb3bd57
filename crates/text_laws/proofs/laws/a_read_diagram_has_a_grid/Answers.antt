use Rattle.braid_closure.proofs.Grids.{closure_grid, size_closure}
use Rattle.knot_text.proofs.GridsRead.{diagram_is}
use Rattle.text_laws.proofs.laws.a_read_diagram_has_a_grid.Goals as goal

pub returns-clause-grid : goal.returns-clause-grid
returns-clause-grid c = diagram_is

pub returns-clause-braid : goal.returns-clause-braid
returns-clause-braid c = closure_grid

pub returns-clause-columns : goal.returns-clause-columns
returns-clause-columns c = size_closure
