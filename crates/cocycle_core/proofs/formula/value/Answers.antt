use Rattle.std.proofs.Common.{◌∙◌}
use Rattle.cocycle_core.proofs.Powers.{value_by}
use Rattle.cocycle_core.proofs.formula.value.Goals as goal

pub returns-clause-value : goal.returns-clause-value
returns-clause-value c = c.times.ensures.product ∙ value_by c.args.k c.args.x c.args.y c.args.q c.times-turned.result c.times-turned.ensures.product
