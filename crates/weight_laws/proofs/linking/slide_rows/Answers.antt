use Rattle.std.proofs.Common.{sym}
use Rattle.grid_moves.specs.declared.step.Move.TheVariants.{SlideRows}
use Rattle.linking_core.proofs.Steps.{step_alike}
use Rattle.weight_laws.proofs.linking.slide_rows.Goals as goal

pub returns-clause-components : goal.returns-clause-components
returns-clause-components c = λ d e r step. sym (step_alike d e (SlideRows r) step).number

pub returns-clause-list : goal.returns-clause-list
returns-clause-list c = λ d e r step. sym (step_alike d e (SlideRows r) step).list
