use Rattle.braid_moves.specs.Fault.{first_step_fault}
use Rattle.text_laws.specs.StepFaults.{IsStepFault, step_rank, step_number}
use Rattle.text_laws.proofs.Firsts.{found_exactly}
use Rattle.text_laws.proofs.Steps.{step_first, step_holds, same_step_fault}
use Rattle.text_laws.proofs.first_faults.the_first_fault_of_a_step_comes_first.Goals as goal

pub returns : goal.returns
returns c = λ w step fault braid.
    found_exactly (IsStepFault w step) step_rank step_number (first_step_fault w step) (step_first w braid step) (step_holds w braid step) same_step_fault fault
