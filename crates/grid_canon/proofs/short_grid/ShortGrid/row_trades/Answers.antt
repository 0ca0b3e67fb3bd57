use Rattle.std.proofs.Common.{◌∙◌}
use Rattle.grid_core.specs.declared.mark.Kind.TheVariants.{Cross, Ring}
use Rattle.grid_canon.proofs.ShortPairs.{each_row, row_pairs, rows_told}
use Rattle.grid_canon.proofs.short_grid.ShortGrid.row_trades.Goals as goal

pub places-requires-clause-each : goal.places-requires-clause-each
places-requires-clause-each c =
    let s = c.self.inside in
    each_row s.size s.crosses s.rings c.self.invariant Cross

pub places-requires-2-clause-each : goal.places-requires-2-clause-each
places-requires-2-clause-each c =
    let s = c.self.inside in
    each_row s.size s.crosses s.rings c.self.invariant Ring

pub trades_of-requires : goal.trades_of-requires
trades_of-requires c =
    let s = c.self.inside in
    row_pairs s.size s.crosses s.rings c.self.invariant c.places.result c.places-2.result c.places.ensures.fits c.places-2.ensures.fits
    c.places.ensures.places c.places-2.ensures.places

pub returns : goal.returns
returns c =
    let s = c.self.inside in
    c.trades_of.ensures
    ∙ rows_told s.size s.crosses s.rings c.self.invariant c.places.result c.places-2.result c.places.ensures.fits c.places-2.ensures.fits
    c.places.ensures.places c.places-2.ensures.places c.args.self.now c.self.view_is
