use Rattle.knot_jobs.proofs.OneAnswer.{defined_answer}
use Rattle.knot_jobs.proofs.laws.an_input_in_shape_has_a_defined_answer.Goals as goal

pub returns : goal.returns
returns c = defined_answer
