use Rattle.std.proofs.Common.{◌≡◌, map}
use Rattle.std.specs.List.{range_with_len}
use Rattle.colour_numbers.specs.Lanes.{lane}
use Rattle.colour_numbers.proofs.lane.lanes_of.Given as goal

abbrev pub invariant-loop-row : goal.invariant-loop-row
invariant-loop-row l = l.lanes.items ≡ map (lane l.grid) (range_with_len 0 l.row)
