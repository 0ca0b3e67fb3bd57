use Rattle.braid_moves.proofs.FaultKinds.{never_memory, never_ruled}
use Rattle.braid_moves.proofs.laws.a_fault_is_never_want_of_memory.Goals as goal

pub returns-clause-step : goal.returns-clause-step
returns-clause-step c = never_memory

pub returns-clause-ruling : goal.returns-clause-ruling
returns-clause-ruling c = λ v w steps place. never_ruled v w 0 steps place
