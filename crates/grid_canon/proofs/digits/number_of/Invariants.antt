use Rattle.std.proofs.Common.{◌≡◌, take}
use Rattle.grid_canon.specs.Digits.{short_number}
use Rattle.grid_canon.proofs.digits.number_of.Given as goal

abbrev pub invariant-loop-row : goal.invariant-loop-row
invariant-loop-row l = l.value ≡ short_number (take l.row-index l.rows)
