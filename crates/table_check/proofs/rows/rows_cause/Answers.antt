use Rattle.std.proofs.Common.{◌≡◌, length, ap, arith}
use Rattle.table_check.specs.TableHolds.{RowAt}
use Rattle.table_check.proofs.Below.{below_none, below_more, below_all}
use Rattle.table_check.proofs.rows.rows_cause.Goals as goal

pub loop-row-init : goal.loop-row-init
loop-row-init c = below_none (RowAt c.args.table.now)

pub loop-row-preserved : goal.loop-row-preserved
loop-row-preserved c = below_more (RowAt c.args.table.now) c.loop-row.row c.loop-row.invariant (c.row_at.ensures.none c.in_default.is)

pub returns-clause-none : goal.returns-clause-none
returns-clause-none c = λ none.
    let long : length c.as_slice-row-end.result.now ≡ length c.args.table.now.rows = ap length c.as_slice-row-end.ensures in
    below_all (RowAt c.args.table.now) c.loop-row.row (length c.args.table.now.rows) (omega (arith, long)) c.loop-row.invariant
