use Rattle.grid_laws.proofs.OneStabilisation.{undone_by, undoes}
use Rattle.grid_laws.proofs.moves.a_destabilisation_is_the_inverse_relation.Goals as goal

pub returns : goal.returns
returns c = λ b r d e. (undone_by b r d e, λ back. undoes b r d e back.0 back.1.0 back.1.1.0 back.1.1.1)
