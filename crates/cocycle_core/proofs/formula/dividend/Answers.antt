use Rattle.cocycle_core.proofs.Powers.{dividend_by}
use Rattle.cocycle_core.proofs.formula.dividend.Goals as goal

pub returns-clause-dividend : goal.returns-clause-dividend
returns-clause-dividend c =
    dividend_by c.args.k c.args.p c.args.y c.args.z c.times-turned.result c.power-first.result c.power-second.result c.power-last.result c.times-third.result
    c.times-turned.ensures.product c.power-first.ensures.power c.power-second.ensures.power c.power-last.ensures.power c.times-third.ensures.product
