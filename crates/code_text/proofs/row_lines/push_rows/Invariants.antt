use Rattle.std.proofs.Common.{◌≡◌, ◌++◌, length}
use Rattle.code_text.specs.RowLines.{rows_of_numbers}
use Rattle.code_text.proofs.row_lines.push_rows.Given as goal

abbrev pub invariant-loop-left : goal.invariant-loop-left
invariant-loop-left l = l.rows.items ++ rows_of_numbers l.left ≡ l.fn.rows.items ++ rows_of_numbers l.names

abbrev pub decreases-loop-left : goal.decreases-loop-left
decreases-loop-left l = length l.left
