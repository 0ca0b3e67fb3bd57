use Rattle.std.proofs.Common.{◌∙◌, arith, sym}
use Rattle.grid_core.specs.declared.mark.Kind.TheVariants.{Cross, Ring}
use Rattle.grid_moves.proofs.Destabilised.{destabilised-step, destabilised-marks}
use Rattle.grid_moves.proofs.destabilisation.narrowing_of.Goals as goal

pub returns-clause-step : goal.returns-clause-step
returns-clause-step c =
    rw (c.column_in_double_row.ensures.place, c.column_in_double_row-2.ensures.place, c.double_row.ensures.row)
    (destabilised-step c.args.column c.args.row c.args.grid.now c.size-last.ensures.grid (omega arith) (omega arith)
    (sym c.marks_in_block-marks.ensures ∙ c.if-marks-ne3.false))

pub returns-clause-crosses : goal.returns-clause-crosses
returns-clause-crosses c =
    rw (c.column_in_double_row.ensures.place, c.double_row.ensures.row)
    (destabilised-marks c.args.column c.args.row c.args.grid.now c.size-last.ensures.grid (omega arith) (sym c.marks_in_block-marks.ensures ∙ c.if-marks-ne3.false)
    Cross)

pub returns-clause-rings : goal.returns-clause-rings
returns-clause-rings c =
    rw (c.column_in_double_row-2.ensures.place, c.double_row.ensures.row)
    (destabilised-marks c.args.column c.args.row c.args.grid.now c.size-last.ensures.grid (omega arith) (sym c.marks_in_block-marks.ensures ∙ c.if-marks-ne3.false)
    Ring)
