use Rattle.verdict_laws.proofs.AcceptedBehind.{quandles_text}
use Rattle.verdict_laws.proofs.HeldVerdicts.{held_decides}
use Rattle.verdict_laws.proofs.decisions.a_verdict_that_holds_is_a_decision.Goals as goal

pub returns-clause-quandles : goal.returns-clause-quandles
returns-clause-quandles c = quandles_text

pub returns-clause-decision : goal.returns-clause-decision
returns-clause-decision c = held_decides c.no_more_colourings_than_choices.ensures
