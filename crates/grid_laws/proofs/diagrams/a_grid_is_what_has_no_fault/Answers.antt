use Rattle.grid_core.proofs.Accepted.{accepted_lists, faultless}
use Rattle.grid_laws.proofs.diagrams.a_grid_is_what_has_no_fault.Goals as goal

pub returns : goal.returns
returns c = λ x o. (accepted_lists x o, faultless (record { x = x; o = o }))
