use Rattle.std.proofs.Common.{◌≡◌, ◌≤◌, ◌+◌, length}
use Rattle.colour_numbers.specs.Lanes.{covering}
use Rattle.colour_numbers.proofs.lane.covering.Given as goal

abbrev pub invariant-loop-column : goal.invariant-loop-column
invariant-loop-column l =
    (l.passes.items ≡ covering l.grid l.row l.from l.column) × (length l.passes.items + l.from ≤ l.column) × (l.from ≤ l.column)
