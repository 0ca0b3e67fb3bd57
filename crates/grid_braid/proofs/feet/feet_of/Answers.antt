use Rattle.std.proofs.Common.{length, subst, sym}
use Rattle.colour_rows.specs.Colouring.{AreColours}
use Rattle.grid_braid.specs.Strands.{down_columns}
use Rattle.grid_braid.proofs.Law.{feet_colours}
use Rattle.grid_braid.proofs.feet.feet_of.Goals as goal

-- src/feet.rt:18:1
pub returns-clause-tuple : goal.returns-clause-tuple
returns-clause-tuple c =
    subst (AreColours (length (down_columns c.args.grid.now)) c.args.quandle.now.order) (sym c.strands_at_feet.ensures)
    (feet_colours c.args.quandle.now c.order-order.ensures.quandle c.args.grid.now c.args.colours.now.items c.requires.colours_are)
