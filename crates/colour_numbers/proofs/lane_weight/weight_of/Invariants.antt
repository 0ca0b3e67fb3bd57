use Rattle.std.proofs.Common.{◌≡◌, ◌<◌, ◌%◌, take}
use Rattle.std.specs.List.{sum_by}
use Rattle.colour_numbers.specs.Lanes.{lane_weight}
use Rattle.colour_numbers.proofs.lane_weight.weight_of.Given as goal

abbrev pub invariant-loop-lane : goal.invariant-loop-lane
invariant-loop-lane l =
    (l.sum ≡ sum_by (λ x. lane_weight l.cocycle x l.colours l.outer) (take l.lane-index l.lanes) % l.cocycle.modulus) × (l.sum < l.cocycle.modulus)
