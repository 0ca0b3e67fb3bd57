use Rattle.std.proofs.Common.{◌≡◌, ◌≤◌, length}
use Rattle.crossing_codes.specs.Layout.{cell_place, IsNumbered}
use Rattle.crossing_codes.proofs.NumberSteps.{LieBefore, up_to}
use Rattle.crossing_codes.proofs.printed.number_row.Given as goal

abbrev pub invariant-loop-column : goal.invariant-loop-column
invariant-loop-column l = record {
  number : l.number ≡ length (up_to l.layout l.row l.column);
  few : l.number ≤ cell_place l.column l.row;
  before : LieBefore (cell_place l.column l.row) (up_to l.layout l.row l.column);
  numbers : IsNumbered (up_to l.layout l.row l.column) l.numbers;
}
