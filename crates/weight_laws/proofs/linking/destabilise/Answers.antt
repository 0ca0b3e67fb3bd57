use Rattle.std.proofs.Common.{sym}
use Rattle.grid_moves.specs.declared.step.Move.TheVariants.{Destabilise}
use Rattle.linking_core.proofs.Steps.{step_alike}
use Rattle.weight_laws.proofs.linking.destabilise.Goals as goal

pub returns-clause-components : goal.returns-clause-components
returns-clause-components c = λ d e b r step. sym (step_alike d e (Destabilise b r) step).number

pub returns-clause-list : goal.returns-clause-list
returns-clause-list c = λ d e b r step. sym (step_alike d e (Destabilise b r) step).list
