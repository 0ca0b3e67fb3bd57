use Rattle.grid_core.specs.Fault.{first_grid_fault}
use Rattle.text_laws.specs.GridFaults.{IsGridFault, grid_rank, grid_number}
use Rattle.text_laws.proofs.Firsts.{found_exactly}
use Rattle.text_laws.proofs.Grids.{grid_first, grid_holds, same_grid_fault}
use Rattle.text_laws.proofs.first_faults.the_first_fault_of_a_grid_comes_first.Goals as goal

pub returns : goal.returns
returns c = λ d fault.
    found_exactly (IsGridFault d) grid_rank grid_number (first_grid_fault d.x d.o) (grid_first d) (grid_holds d) same_grid_fault fault
