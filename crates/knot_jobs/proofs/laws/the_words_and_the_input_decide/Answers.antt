use Rattle.knot_jobs.proofs.Endings.{outcome_once}
use Rattle.knot_jobs.proofs.laws.the_words_and_the_input_decide.Goals as goal

pub returns : goal.returns
returns c = outcome_once
