use Rattle.text_lines.specs.Lines.{text_of}
use Rattle.knot_text.proofs.ShapesSay.{problem_in_says, check_in_says, replay_in_says, colour_in_says, close_in_says, lone_diagram_in_says, pair_in_says}
use Rattle.text_laws.proofs.ShapesAgain.{problem_in_written, check_in_written, replay_in_written, colour_in_written, close_in_written}
use Rattle.text_laws.proofs.ShapesAgain.{lone_diagram_in_written, pair_in_written}
use Rattle.text_laws.proofs.StepsSay.{braidcheck_in_says}
use Rattle.text_laws.proofs.StepsWritten.{braidcheck_in_written}
use Rattle.text_laws.proofs.WeightsSay.{weight_in_says}
use Rattle.text_laws.proofs.WeightsAgain.{weight_in_written}
use Rattle.text_laws.proofs.laws.a_text_is_read_as_what_it_says.Goals as goal

pub returns-clause-problem : goal.returns-clause-problem
returns-clause-problem c = λ bytes p. ((problem_in_says (text_of bytes)).of p, problem_in_written (text_of bytes) p)

pub returns-clause-check : goal.returns-clause-check
returns-clause-check c = λ bytes p v. ((check_in_says (text_of bytes)).of (p, v), check_in_written (text_of bytes) p v)

pub returns-clause-replay : goal.returns-clause-replay
returns-clause-replay c = λ bytes r. ((replay_in_says (text_of bytes)).of r, λ w. replay_in_written (text_of bytes) r w.0 w.1)

pub returns-clause-colour : goal.returns-clause-colour
returns-clause-colour c = λ bytes r. ((colour_in_says (text_of bytes)).of r, colour_in_written (text_of bytes) r)

pub returns-clause-close : goal.returns-clause-close
returns-clause-close c = λ bytes r. ((close_in_says (text_of bytes)).of r, close_in_written (text_of bytes) r)

pub returns-clause-diagram : goal.returns-clause-diagram
returns-clause-diagram c = λ bytes d. ((lone_diagram_in_says (text_of bytes)).of d, λ w. lone_diagram_in_written (text_of bytes) d w.0 w.1)

pub returns-clause-pair : goal.returns-clause-pair
returns-clause-pair c = λ bytes d e. ((pair_in_says (text_of bytes)).of (d, e), pair_in_written (text_of bytes) d e)

pub returns-clause-braidcheck : goal.returns-clause-braidcheck
returns-clause-braidcheck c = λ bytes i. ((braidcheck_in_says (text_of bytes)).of i, braidcheck_in_written (text_of bytes) i)

pub returns-clause-weights : goal.returns-clause-weights
returns-clause-weights c = λ bytes w. ((weight_in_says (text_of bytes)).of w, λ x. weight_in_written (text_of bytes) w x.0 x.1)
