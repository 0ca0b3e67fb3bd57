use Rattle.next_moves.proofs.Closed.{neighbour_reached, form_reached}
use Rattle.next_moves.proofs.laws.neighbours_and_forms_are_reached.Goals as goal

pub returns-clause-neighbour : goal.returns-clause-neighbour
returns-clause-neighbour c = neighbour_reached

pub returns-clause-form : goal.returns-clause-form
returns-clause-form c = form_reached
