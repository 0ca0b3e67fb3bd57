use Rattle.knot_jobs.proofs.OneAnswer.{some_answer, answers_once}
use Rattle.knot_jobs.proofs.laws.an_input_has_one_answer.Goals as goal

pub returns-clause-some : goal.returns-clause-some
returns-clause-some c = some_answer

pub returns-clause-one : goal.returns-clause-one
returns-clause-one c = answers_once
