use Rattle.std.proofs.Common.{subst}
use Rattle.grid_moves.specs.Step.{Step}
use Rattle.grid_moves.proofs.Undone.{shift_columns_back, shift_rows_back, exchange_columns_back, exchange_rows_back, slide_columns_back, slide_rows_back}
use Rattle.grid_moves.proofs.Undone.{stabilise_back, destabilise_back}
use Rattle.grid_moves.proofs.applying.inverse.Goals as goal

pub returns-in-ShiftColumns-clause-back : goal.returns-in-ShiftColumns-clause-back
returns-in-ShiftColumns-clause-back c =
    λ e step. rw c.size-size.ensures.size
    (shift_columns_back c.in-ShiftColumns.k c.args.grid.now e (subst (λ m. Step c.args.grid.now m e) c.in-ShiftColumns.is step))

pub returns-in-ShiftRows-clause-back : goal.returns-in-ShiftRows-clause-back
returns-in-ShiftRows-clause-back c =
    λ e step. rw c.size-size.ensures.size (shift_rows_back c.in-ShiftRows.k c.args.grid.now e (subst (λ m. Step c.args.grid.now m e) c.in-ShiftRows.is step))

pub returns-in-ExchangeColumns-clause-back : goal.returns-in-ExchangeColumns-clause-back
returns-in-ExchangeColumns-clause-back c =
    λ e step. exchange_columns_back c.in-ExchangeColumns.c c.args.grid.now e (subst (λ m. Step c.args.grid.now m e) c.in-ExchangeColumns.is step)

pub returns-in-ExchangeRows-clause-back : goal.returns-in-ExchangeRows-clause-back
returns-in-ExchangeRows-clause-back c =
    λ e step. exchange_rows_back c.in-ExchangeRows.r c.args.grid.now e (subst (λ m. Step c.args.grid.now m e) c.in-ExchangeRows.is step)

pub returns-in-SlideColumns-clause-back : goal.returns-in-SlideColumns-clause-back
returns-in-SlideColumns-clause-back c =
    λ e step. slide_columns_back c.in-SlideColumns.c c.args.grid.now e (subst (λ m. Step c.args.grid.now m e) c.in-SlideColumns.is step)

pub returns-in-SlideRows-clause-back : goal.returns-in-SlideRows-clause-back
returns-in-SlideRows-clause-back c = λ e step. slide_rows_back c.in-SlideRows.r c.args.grid.now e (subst (λ m. Step c.args.grid.now m e) c.in-SlideRows.is step)

pub returns-in-Stabilise-clause-back : goal.returns-in-Stabilise-clause-back
returns-in-Stabilise-clause-back c =
    λ e step. rw c.row_of.ensures.row
    (stabilise_back c.in-Stabilise.column c.in-Stabilise.kind c.in-Stabilise.corner c.args.grid.now e
    (subst (λ m. Step c.args.grid.now m e) c.in-Stabilise.is step))

pub returns-in-Destabilise-clause-back : goal.returns-in-Destabilise-clause-back
returns-in-Destabilise-clause-back c =
    λ e step. rw (c.block_kind.ensures, c.block_corner.ensures)
    (destabilise_back c.in-Destabilise.column c.in-Destabilise.row c.args.grid.now e (subst (λ m. Step c.args.grid.now m e) c.in-Destabilise.is step))
