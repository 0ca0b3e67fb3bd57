use Rattle.text_laws.proofs.Readings.{grid_once, moves_once, verdict_once}
use Rattle.text_laws.proofs.laws.a_printed_text_has_one_value.Goals as goal

pub returns-clause-grid : goal.returns-clause-grid
returns-clause-grid c = grid_once

pub returns-clause-moves : goal.returns-clause-moves
returns-clause-moves c = moves_once

pub returns-clause-verdict : goal.returns-clause-verdict
returns-clause-verdict c = verdict_once
