use Rattle.std.proofs.Common.{◌≡◌, take}
use Rattle.grid_keys.specs.Key.{key_number}
use Rattle.grid_keys.proofs.key.number.Given as goal

abbrev pub invariant-loop-row : goal.invariant-loop-row
invariant-loop-row l = l.value ≡ key_number (take l.row-index l.rows)
