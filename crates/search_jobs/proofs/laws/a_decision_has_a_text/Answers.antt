use Rattle.search_jobs.proofs.PrintedVerdicts.{decided_text}
use Rattle.search_jobs.proofs.laws.a_decision_has_a_text.Goals as goal

pub returns : goal.returns
returns c = decided_text c.no_more_colourings_than_choices.ensures
