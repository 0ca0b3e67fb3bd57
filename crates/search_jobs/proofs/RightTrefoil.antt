-- The right trefoil is a small grid.
use Rattle.std.proofs.Common.{◌≤◌, arith, refl}
use Rattle.grid_core.specs.Diagram.{IsGrid, size}
use Rattle.grid_core.proofs.Accepted.{accepted_lists}
use Rattle.search_jobs.specs.declared.walk.TheConstants.{LARGEST}
use Rattle.grid_core.specs.Trefoils.{right_trefoil}

pub right_trefoil_grid : IsGrid right_trefoil
right_trefoil_grid = accepted_lists right_trefoil.x right_trefoil.o refl

pub right_trefoil_small : size right_trefoil ≤ LARGEST
right_trefoil_small = omega arith
