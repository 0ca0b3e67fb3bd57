use Rattle.std.proofs.Common.{subst}
use Rattle.grid_moves.specs.declared.step.Move.TheVariants.{ShiftColumns, ShiftRows, ExchangeColumns, ExchangeRows, SlideColumns, SlideRows, Stabilise}
use Rattle.grid_moves.specs.declared.step.Move.TheVariants.{Destabilise}
use Rattle.grid_moves.specs.Step.{Step}
use Rattle.grid_moves.proofs.OneResult.{answers_in_place}
use Rattle.grid_moves.proofs.applying.apply_in_place.Goals as goal

pub returns-in-ShiftColumns-clause-complete : goal.returns-in-ShiftColumns-clause-complete
returns-in-ShiftColumns-clause-complete c =
    λ e step. answers_in_place c.args.grid.now
    (ShiftColumns c.in-ShiftColumns.k) c.shift_columns.result c.shift_columns.new.grid c.shift_columns.ensures.fault c.shift_columns.ensures.moved e
    (subst (λ m. Step c.args.grid.now m e) c.in-ShiftColumns.is step)

pub returns-in-ShiftRows-clause-complete : goal.returns-in-ShiftRows-clause-complete
returns-in-ShiftRows-clause-complete c =
    λ e step. answers_in_place c.args.grid.now (ShiftRows c.in-ShiftRows.k) c.shift_rows.result c.shift_rows.new.grid c.shift_rows.ensures.fault c.shift_rows.ensures.moved e
    (subst (λ m. Step c.args.grid.now m e) c.in-ShiftRows.is step)

pub returns-in-ExchangeColumns-clause-complete : goal.returns-in-ExchangeColumns-clause-complete
returns-in-ExchangeColumns-clause-complete c =
    λ e step. answers_in_place c.args.grid.now
    (ExchangeColumns c.in-ExchangeColumns.c) c.exchange_columns.result c.exchange_columns.new.grid c.exchange_columns.ensures.fault c.exchange_columns.ensures.moved e
    (subst (λ m. Step c.args.grid.now m e) c.in-ExchangeColumns.is step)

pub returns-in-ExchangeRows-clause-complete : goal.returns-in-ExchangeRows-clause-complete
returns-in-ExchangeRows-clause-complete c =
    λ e step. answers_in_place c.args.grid.now
    (ExchangeRows c.in-ExchangeRows.r) c.exchange_rows.result c.exchange_rows.new.grid c.exchange_rows.ensures.fault c.exchange_rows.ensures.moved e
    (subst (λ m. Step c.args.grid.now m e) c.in-ExchangeRows.is step)

pub returns-in-SlideColumns-clause-complete : goal.returns-in-SlideColumns-clause-complete
returns-in-SlideColumns-clause-complete c =
    λ e step. answers_in_place c.args.grid.now
    (SlideColumns c.in-SlideColumns.c) c.slide_columns.result c.slide_columns.new.grid c.slide_columns.ensures.fault c.slide_columns.ensures.moved e
    (subst (λ m. Step c.args.grid.now m e) c.in-SlideColumns.is step)

pub returns-in-SlideRows-clause-complete : goal.returns-in-SlideRows-clause-complete
returns-in-SlideRows-clause-complete c =
    λ e step. answers_in_place c.args.grid.now (SlideRows c.in-SlideRows.r) c.slide_rows.result c.slide_rows.new.grid c.slide_rows.ensures.fault c.slide_rows.ensures.moved e
    (subst (λ m. Step c.args.grid.now m e) c.in-SlideRows.is step)

pub returns-in-Stabilise-clause-complete : goal.returns-in-Stabilise-clause-complete
returns-in-Stabilise-clause-complete c =
    λ e step. answers_in_place c.args.grid.now
    (Stabilise c.in-Stabilise.column c.in-Stabilise.kind c.in-Stabilise.corner) c.stabilise.result c.stabilise.new.grid c.stabilise.ensures.fault c.stabilise.ensures.moved e
    (subst (λ m. Step c.args.grid.now m e) c.in-Stabilise.is step)

pub returns-in-Destabilise-clause-complete : goal.returns-in-Destabilise-clause-complete
returns-in-Destabilise-clause-complete c =
    λ e step. answers_in_place c.args.grid.now
    (Destabilise c.in-Destabilise.column c.in-Destabilise.row) c.destabilise.result c.destabilise.new.grid c.destabilise.ensures.fault c.destabilise.ensures.moved e
    (subst (λ m. Step c.args.grid.now m e) c.in-Destabilise.is step)
