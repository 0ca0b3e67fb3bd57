use Rattle.std.proofs.Common.{◌∙◌}
use Rattle.grid_canon.proofs.MarkedTrades.{next_rows, counted_rows, counted_pairs}
use Rattle.grid_canon.proofs.short_trades.trades_of.Goals as goal

pub lowered_each-cross-requires-clause-value : goal.lowered_each-cross-requires-clause-value
lowered_each-cross-requires-clause-value c =
    (next_rows c.args.size c.args.crosses c.cut.result c.requires.least c.requires.crosses_fit c.requires.crosses_inside c.cut.ensures).has.fits

pub lowered_each-cross-requires-clause-inside : goal.lowered_each-cross-requires-clause-inside
lowered_each-cross-requires-clause-inside c =
    (next_rows c.args.size c.args.crosses c.cut.result c.requires.least c.requires.crosses_fit c.requires.crosses_inside c.cut.ensures).inside

pub lowered_each-ring-requires-clause-value : goal.lowered_each-ring-requires-clause-value
lowered_each-ring-requires-clause-value c =
    (next_rows c.args.size c.args.rings c.cut-2.result c.requires.least c.requires.rings_fit c.requires.rings_inside c.cut-2.ensures).has.fits

pub lowered_each-ring-requires-clause-inside : goal.lowered_each-ring-requires-clause-inside
lowered_each-ring-requires-clause-inside c =
    (next_rows c.args.size c.args.rings c.cut-2.result c.requires.least c.requires.rings_fit c.requires.rings_inside c.cut-2.ensures).inside

pub trades_from-requires-clause-end : goal.trades_from-requires-clause-end
trades_from-requires-clause-end c =
    (counted_rows c.args.size c.args.rings c.args.crosses c.lowered_each-end.result c.requires.most c.requires.rings_inside c.requires.crosses_inside
    c.lowered_each-end.ensures).has.fits

pub trades_from-requires-clause-end_inside : goal.trades_from-requires-clause-end_inside
trades_from-requires-clause-end_inside c =
    (counted_rows c.args.size c.args.rings c.args.crosses c.lowered_each-end.result c.requires.most c.requires.rings_inside c.requires.crosses_inside
    c.lowered_each-end.ensures).inside

pub trades_from-requires-clause-cross : goal.trades_from-requires-clause-cross
trades_from-requires-clause-cross c =
    let next = next_rows c.args.size c.args.crosses c.cut.result c.requires.least c.requires.crosses_fit c.requires.crosses_inside c.cut.ensures in
    (counted_rows c.args.size c.cut.result c.args.crosses c.lowered_each-cross.result c.requires.most next.inside c.requires.crosses_inside
    c.lowered_each-cross.ensures).has.fits

pub trades_from-requires-clause-cross_inside : goal.trades_from-requires-clause-cross_inside
trades_from-requires-clause-cross_inside c =
    let next = next_rows c.args.size c.args.crosses c.cut.result c.requires.least c.requires.crosses_fit c.requires.crosses_inside c.cut.ensures in
    (counted_rows c.args.size c.cut.result c.args.crosses c.lowered_each-cross.result c.requires.most next.inside c.requires.crosses_inside
    c.lowered_each-cross.ensures).inside

pub trades_from-requires-clause-ring : goal.trades_from-requires-clause-ring
trades_from-requires-clause-ring c =
    let next = next_rows c.args.size c.args.rings c.cut-2.result c.requires.least c.requires.rings_fit c.requires.rings_inside c.cut-2.ensures in
    (counted_rows c.args.size c.cut-2.result c.args.crosses c.lowered_each-ring.result c.requires.most next.inside c.requires.crosses_inside
    c.lowered_each-ring.ensures).has.fits

pub trades_from-requires-clause-ring_inside : goal.trades_from-requires-clause-ring_inside
trades_from-requires-clause-ring_inside c =
    let next = next_rows c.args.size c.args.rings c.cut-2.result c.requires.least c.requires.rings_fit c.requires.rings_inside c.cut-2.ensures in
    (counted_rows c.args.size c.cut-2.result c.args.crosses c.lowered_each-ring.result c.requires.most next.inside c.requires.crosses_inside
    c.lowered_each-ring.ensures).inside

pub returns : goal.returns
returns c =
    let n = c.args.size in
    let crosses = c.args.crosses in
    let rings = c.args.rings in
    let most = c.requires.most in
    let next_x = next_rows n crosses c.cut.result c.requires.least c.requires.crosses_fit c.requires.crosses_inside c.cut.ensures in
    let next_o = next_rows n rings c.cut-2.result c.requires.least c.requires.rings_fit c.requires.rings_inside c.cut-2.ensures in
    c.trades_from.ensures
    ∙ counted_pairs n crosses rings c.lowered_each-end.result c.cut.result c.lowered_each-cross.result c.cut-2.result c.lowered_each-ring.result c.requires
    (counted_rows n rings crosses c.lowered_each-end.result most c.requires.rings_inside c.requires.crosses_inside c.lowered_each-end.ensures)
    next_x (counted_rows n c.cut.result crosses c.lowered_each-cross.result most next_x.inside c.requires.crosses_inside c.lowered_each-cross.ensures)
    next_o (counted_rows n c.cut-2.result crosses c.lowered_each-ring.result most next_o.inside c.requires.crosses_inside c.lowered_each-ring.ensures)
