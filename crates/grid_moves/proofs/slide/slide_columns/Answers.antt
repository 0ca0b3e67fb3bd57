use Rattle.std.proofs.Common.{arith, sym}
use Rattle.grid_moves.proofs.Exchanged.{columns_exchanged-grid}
use Rattle.grid_moves.proofs.Slid.{columns_slid-step}
use Rattle.grid_moves.proofs.slide.slide_columns.Goals as goal

pub set_rows-requires : goal.set_rows-requires
set_rows-requires c =
    rw (c.swapped_columns-crosses.ensures, c.swapped_columns-rings.ensures) (columns_exchanged-grid c.args.c c.args.grid.now c.size.ensures.grid (omega arith))

pub returns-clause-moved : goal.returns-clause-moved
returns-clause-moved c =
    rw (c.set_rows.ensures, c.swapped_columns-crosses.ensures, c.swapped_columns-rings.ensures)
    (columns_slid-step c.args.c c.args.grid.now c.size.ensures.grid (omega arith)
    (rw (← c.column_span.ensures, ← c.column_span-2.ensures) (sym c.in_ok-slide_fault.ensures)))
