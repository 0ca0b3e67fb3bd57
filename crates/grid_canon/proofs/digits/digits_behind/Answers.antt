use Rattle.grid_canon.proofs.LowColumns.{behind_least, behind_most}
use Rattle.grid_canon.proofs.digits.digits_behind.Goals as goal

pub returns-clause-least : goal.returns-clause-least
returns-clause-least c = behind_least c.args.value c.ilog2.result c.ilog2.ensures.power_le

pub returns-clause-most : goal.returns-clause-most
returns-clause-most c = behind_most c.args.value c.ilog2.result c.ilog2.ensures.next_power_gt
