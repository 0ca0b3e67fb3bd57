use Rattle.std.proofs.Common.{rules}
use Rattle.colour_seeds.proofs.Settlings.{right_colours, left_colours}
use Rattle.colour_seeds.proofs.settling.passes.Goals as goal

pub returns-in-Rightward-clause-colours : goal.returns-in-Rightward-clause-colours
returns-in-Rightward-clause-colours c =
    right_colours c.args.quandle.now c.args.grid.now c.order-order.ensures.quandle c.size-size.ensures.grid c.in-Rightward.row (search rules)
    c.row_at.result.now c.row_at.ensures.equation c.args.colours.now c.settle_right.new.colours c.requires.colours c.settle_right.ensures

pub returns-in-Leftward-clause-colours : goal.returns-in-Leftward-clause-colours
returns-in-Leftward-clause-colours c =
    left_colours c.args.quandle.now c.args.grid.now c.order-order.ensures.quandle c.size-size.ensures.grid c.in-Leftward.row (search rules)
    c.row_at-in-Leftward.result.now c.row_at-in-Leftward.ensures.equation c.args.colours.now c.settle_left.new.colours c.requires.colours
    c.settle_left.ensures
