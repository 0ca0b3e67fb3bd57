use Rattle.grid_moves.specs.MoveFault.{first_move_fault}
use Rattle.text_laws.specs.MoveFaults.{IsMoveFault, move_rank, move_number}
use Rattle.text_laws.proofs.Firsts.{found_exactly}
use Rattle.text_laws.proofs.Moves.{move_first, move_holds, same_move_fault}
use Rattle.text_laws.proofs.first_faults.the_first_fault_of_a_move_comes_first.Goals as goal

pub returns : goal.returns
returns c = λ d move fault.
    found_exactly (IsMoveFault d move) move_rank move_number (first_move_fault d move) (move_first d move) (move_holds d move) same_move_fault fault
