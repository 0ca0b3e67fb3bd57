use Rattle.code_rows.specs.RowSigns.{Reached}
use Rattle.code_rows.proofs.row_signs.joined_ties.Given as goal

abbrev pub invariant-loop-before : goal.invariant-loop-before
invariant-loop-before l = Reached l.rows l.ties.items l.before
