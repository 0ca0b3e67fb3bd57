use Rattle.std.proofs.Common.{◌∙◌, ap}
use Rattle.cocycle_core.specs.Formula.{has_formula}
use Rattle.number_text.proofs.shadows.is_of_formula.Goals as goal

pub returns : goal.returns
returns c = c.has_formula.ensures ∙ ap has_formula c.of.ensures
