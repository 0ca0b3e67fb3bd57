use Rattle.std.proofs.Common.{arith}
use Rattle.grid_moves.proofs.Shifted.{rows_shifted-grid, rows_shifted-step}
use Rattle.grid_moves.proofs.shift.shift_rows.Goals as goal

pub set_rows-requires : goal.set_rows-requires
set_rows-requires c =
    rw (c.shifted_rows-crosses.ensures, c.shifted_rows-rings.ensures) (rows_shifted-grid c.args.k c.args.grid.now c.size.ensures.grid (omega arith) (omega arith))

pub returns-clause-moved : goal.returns-clause-moved
returns-clause-moved c =
    rw (c.set_rows.ensures, c.shifted_rows-crosses.ensures, c.shifted_rows-rings.ensures)
    (rows_shifted-step c.args.k c.args.grid.now c.size.ensures.grid (omega arith) (omega arith))
