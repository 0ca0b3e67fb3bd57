use Rattle.std.proofs.Common.{sym}
use Rattle.linking_core.proofs.Steps.{equivalent_alike}
use Rattle.weight_laws.proofs.linking.equivalent_diagrams_have_equal_linking_numbers.Goals as goal

pub returns-clause-components : goal.returns-clause-components
returns-clause-components c = λ d e equivalent. sym (equivalent_alike d e equivalent).number

pub returns-clause-list : goal.returns-clause-list
returns-clause-list c = λ d e equivalent. sym (equivalent_alike d e equivalent).list

pub returns-clause-different : goal.returns-clause-different
returns-clause-different c = λ d e other equivalent. other (sym (equivalent_alike d e equivalent).list)
