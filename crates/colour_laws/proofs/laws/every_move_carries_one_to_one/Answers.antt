use Rattle.colour_laws.proofs.Steps.{step_carries}
use Rattle.colour_laws.proofs.laws.every_move_carries_one_to_one.Goals as goal

pub returns : goal.returns
returns c = λ t d e move q step. step_carries t q d e move step
