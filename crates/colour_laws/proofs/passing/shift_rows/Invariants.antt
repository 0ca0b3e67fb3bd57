use Rattle.std.proofs.Common.{◌≡◌}
use Rattle.colour_laws.specs.Carried.{rows_shifted}
use Rattle.colour_laws.proofs.passing.shift_rows.Given as goal

abbrev pub invariant-loop-row : goal.invariant-loop-row
invariant-loop-row l = l.carried.items ≡ rows_shifted l.quandle l.row l.grid l.colours.items
