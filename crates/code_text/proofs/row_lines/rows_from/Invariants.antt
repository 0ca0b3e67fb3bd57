use Rattle.std.proofs.Common.{◌≡◌, ◌≤◌, [], length}
use Rattle.code_rows.specs.declared.code_fault.TheConstants.{MAX_CROSSINGS}
use Rattle.code_text.specs.RowLines.{rows_from}
use Rattle.code_text.proofs.row_lines.rows_from.Given as goal

abbrev pub invariant-loop-alloc : goal.invariant-loop-alloc
invariant-loop-alloc l = (rows_from l.most l.rows.items l.lines ≡ rows_from l.most [] l.fn.lines) × (length l.rows.items ≤ MAX_CROSSINGS)

abbrev pub decreases-loop-alloc : goal.decreases-loop-alloc
decreases-loop-alloc l = length l.lines.lines
