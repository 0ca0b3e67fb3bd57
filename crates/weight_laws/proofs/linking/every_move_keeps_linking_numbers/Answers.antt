use Rattle.std.proofs.Common.{sym}
use Rattle.linking_core.proofs.Steps.{step_alike}
use Rattle.weight_laws.proofs.linking.every_move_keeps_linking_numbers.Goals as goal

pub returns-clause-components : goal.returns-clause-components
returns-clause-components c = λ d e move step. sym (step_alike d e move step).number

pub returns-clause-list : goal.returns-clause-list
returns-clause-list c = λ d e move step. sym (step_alike d e move step).list
