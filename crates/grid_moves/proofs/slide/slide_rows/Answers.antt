use Rattle.std.proofs.Common.{arith, sym}
use Rattle.grid_moves.proofs.Exchanged.{rows_exchanged-grid}
use Rattle.grid_moves.proofs.Slid.{rows_slid-step}
use Rattle.grid_moves.proofs.slide.slide_rows.Goals as goal

pub set_rows-requires : goal.set_rows-requires
set_rows-requires c =
    rw (c.exchanged_rows-crosses.ensures, c.exchanged_rows-rings.ensures) (rows_exchanged-grid c.args.r c.args.grid.now c.size.ensures.grid (omega arith))

pub returns-clause-moved : goal.returns-clause-moved
returns-clause-moved c =
    rw (c.set_rows.ensures, c.exchanged_rows-crosses.ensures, c.exchanged_rows-rings.ensures)
    (rows_slid-step c.args.r c.args.grid.now c.size.ensures.grid (omega arith)
    (rw (← c.row_span.ensures.span, ← c.row_span-2.ensures.span) (sym c.in_ok-slide_fault.ensures)))
