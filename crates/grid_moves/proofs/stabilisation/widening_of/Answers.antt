use Rattle.std.proofs.Common.{arith}
use Rattle.grid_moves.proofs.Stabilised.{stabilised-step}
use Rattle.grid_moves.proofs.stabilisation.widening_of.Goals as goal

pub returns-clause-step : goal.returns-clause-step
returns-clause-step c =
    rw (c.column_in_new_row.ensures.place, c.column_in_new_row-2.ensures.place, c.row_of.ensures.row, c.row.ensures)
    (stabilised-step c.args.column c.args.kind c.args.corner c.args.grid.now c.size-size.ensures.grid (omega arith) (omega arith))
