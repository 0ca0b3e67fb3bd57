use Rattle.std.proofs.Common.{sym}
use Rattle.grid_moves.specs.declared.step.Move.TheVariants.{Stabilise}
use Rattle.linking_core.proofs.Steps.{step_alike}
use Rattle.weight_laws.proofs.linking.stabilise.Goals as goal

pub returns-clause-components : goal.returns-clause-components
returns-clause-components c = λ d e b kind corner step. sym (step_alike d e (Stabilise b kind corner) step).number

pub returns-clause-list : goal.returns-clause-list
returns-clause-list c = λ d e b kind corner step. sym (step_alike d e (Stabilise b kind corner) step).list
