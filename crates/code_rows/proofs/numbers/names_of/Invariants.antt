use Rattle.std.proofs.Common.{◌≡◌, take}
use Rattle.code_rows.specs.Rows.{all_names}
use Rattle.code_rows.proofs.numbers.names_of.Given as goal

abbrev pub invariant-loop-row : goal.invariant-loop-row
invariant-loop-row l = l.names.items ≡ all_names (take l.row-index l.rows)
