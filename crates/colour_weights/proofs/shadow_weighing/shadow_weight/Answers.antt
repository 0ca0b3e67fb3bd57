use Rattle.std.proofs.Common.{◌∙◌, sym}
use Rattle.colour_weights.proofs.ShadowCarried.{by_rows}
use Rattle.colour_weights.proofs.shadow_weighing.shadow_weight.Goals as goal

pub returns-clause-weight : goal.returns-clause-weight
returns-clause-weight c =
    c.by_rows.ensures.weight ∙ sym (by_rows c.args.cocycle.now c.modulus-modulus.ensures.cocycle c.args.grid.now c.size-size.ensures.grid
    c.args.colours.now.items c.requires.colouring c.args.outer c.requires.outer)
