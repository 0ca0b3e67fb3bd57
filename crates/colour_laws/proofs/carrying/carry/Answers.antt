use Rattle.colour_laws.proofs.Steps.{carried_is}
use Rattle.colour_laws.proofs.carrying.carry.Goals as goal

pub returns-clause-colouring : goal.returns-clause-colouring
returns-clause-colouring c =
    carried_is c.args.quandle.now c.order-order.ensures.quandle c.args.grid.now c.args.step c.args.colours.now.items c.by_kind.result.items c.requires.colouring
    c.by_kind.ensures
