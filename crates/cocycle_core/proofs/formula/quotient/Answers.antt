use Rattle.std.proofs.Common.{arith}
use Rattle.cocycle_core.proofs.Powers.{quotient_by}
use Rattle.cocycle_core.proofs.formula.quotient.Goals as goal

pub returns-clause-quotient : goal.returns-clause-quotient
returns-clause-quotient c =
    quotient_by c.square.result c.args.p c.args.y c.args.z c.dividend-dividend.result (omega arith) c.square.ensures.square c.dividend-dividend.ensures.dividend
