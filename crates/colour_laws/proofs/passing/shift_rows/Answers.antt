use Rattle.std.proofs.Common.{◌∙◌, List, ℕ, sym, subst, arith}
use Rattle.grid_core.specs.Diagram.{size}
use Rattle.colour_rows.specs.Colouring.{AreColours}
use Rattle.colour_laws.proofs.Moments.{moment_colours}
use Rattle.colour_laws.proofs.passing.shift_rows.Goals as goal

pub lift_row-requires-clause-colours : goal.lift_row-requires-clause-colours
lift_row-requires-clause-colours c =
    let n = size c.args.grid.now in
    let q = c.args.quandle.now.order in
    subst (λ (ys : List ℕ). AreColours n q ys) (sym (c.as_mut_slice.ensures.value ∙ c.loop-row.invariant))
    (moment_colours c.args.quandle.now c.order-order.ensures.quandle c.args.grid.now c.size-size.ensures.grid c.args.colours.now.items c.requires.colouring
    c.loop-row.row (omega (arith, c.loop-row-test.true, c.requires.most)))
