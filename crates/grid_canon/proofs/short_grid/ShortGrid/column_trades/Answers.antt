use Rattle.std.proofs.Common.{◌∙◌}
use Rattle.grid_canon.proofs.ShortPairs.{column_pairs, columns_told}
use Rattle.grid_canon.proofs.short_grid.ShortGrid.column_trades.Goals as goal

pub trades_of-requires : goal.trades_of-requires
trades_of-requires c =
    let s = c.self.inside in
    column_pairs s.size s.crosses s.rings c.self.invariant

pub returns : goal.returns
returns c =
    let s = c.self.inside in
    c.trades_of.ensures ∙ columns_told s.size s.crosses s.rings c.self.invariant c.args.self.now c.self.view_is
