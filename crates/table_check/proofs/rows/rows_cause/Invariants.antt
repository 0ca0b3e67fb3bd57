use Rattle.table_check.specs.TableHolds.{RowsHold}
use Rattle.table_check.proofs.rows.rows_cause.Given as goal

abbrev pub invariant-loop-row : goal.invariant-loop-row
invariant-loop-row l = RowsHold l.table l.row
