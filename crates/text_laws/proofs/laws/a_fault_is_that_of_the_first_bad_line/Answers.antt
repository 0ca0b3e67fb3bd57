use Rattle.knot_text.proofs.ShapesFail.{problem_fails, check_fails, replay_fails, colour_fails, close_fails, lone_diagram_fails, pair_fails}
use Rattle.knot_text.proofs.BraidChecksFail.{braidcheck_fails}
use Rattle.knot_text.proofs.WeightsFail.{weight_fails}
use Rattle.text_laws.proofs.laws.a_fault_is_that_of_the_first_bad_line.Goals as goal

pub returns-clause-problem : goal.returns-clause-problem
returns-clause-problem c = problem_fails

pub returns-clause-check : goal.returns-clause-check
returns-clause-check c = check_fails

pub returns-clause-replay : goal.returns-clause-replay
returns-clause-replay c = replay_fails

pub returns-clause-colour : goal.returns-clause-colour
returns-clause-colour c = colour_fails

pub returns-clause-close : goal.returns-clause-close
returns-clause-close c = close_fails

pub returns-clause-diagram : goal.returns-clause-diagram
returns-clause-diagram c = lone_diagram_fails

pub returns-clause-pair : goal.returns-clause-pair
returns-clause-pair c = pair_fails

pub returns-clause-braidcheck : goal.returns-clause-braidcheck
returns-clause-braidcheck c = braidcheck_fails

pub returns-clause-weights : goal.returns-clause-weights
returns-clause-weights c = weight_fails
