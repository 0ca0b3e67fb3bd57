use Rattle.text_laws.proofs.Readings.{problem_again, check_again, replay_again, colour_again, close_again, diagram_again, pair_again}
use Rattle.text_laws.proofs.StepsWritten.{braidcheck_again}
use Rattle.text_laws.proofs.WeightsAgain.{weight_again}
use Rattle.text_laws.proofs.laws.a_text_has_one_reading.Goals as goal

pub returns-clause-problem : goal.returns-clause-problem
returns-clause-problem c = problem_again

pub returns-clause-check : goal.returns-clause-check
returns-clause-check c = check_again

pub returns-clause-replay : goal.returns-clause-replay
returns-clause-replay c = replay_again

pub returns-clause-colour : goal.returns-clause-colour
returns-clause-colour c = colour_again

pub returns-clause-close : goal.returns-clause-close
returns-clause-close c = close_again

pub returns-clause-diagram : goal.returns-clause-diagram
returns-clause-diagram c = diagram_again

pub returns-clause-pair : goal.returns-clause-pair
returns-clause-pair c = pair_again

pub returns-clause-braidcheck : goal.returns-clause-braidcheck
returns-clause-braidcheck c = braidcheck_again

pub returns-clause-weights : goal.returns-clause-weights
returns-clause-weights c = weight_again
