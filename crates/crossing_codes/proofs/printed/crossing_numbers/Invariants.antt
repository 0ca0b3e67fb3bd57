use Rattle.std.proofs.Common.{◌≡◌, ◌≤◌, ◌*◌, length}
use Rattle.grid_core.specs.declared.grid.TheConstants.{MAX_SIZE}
use Rattle.crossing_codes.specs.Layout.{crossings_below, IsNumbered}
use Rattle.crossing_codes.proofs.printed.crossing_numbers.Given as goal

abbrev pub invariant-loop-row : goal.invariant-loop-row
invariant-loop-row l = record {
  last : l.last ≡ length (crossings_below l.layout l.row);
  few : l.last ≤ l.row * MAX_SIZE;
  numbers : IsNumbered (crossings_below l.layout l.row) l.numbers;
}
