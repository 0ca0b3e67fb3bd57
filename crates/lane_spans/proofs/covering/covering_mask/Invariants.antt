use Rattle.std.proofs.Common.{◌-◌, ◌≡◌, ◌≤◌, ◌%◌, length}
use Rattle.lane_spans.specs.Columns.{lane_covers}
use Rattle.lane_spans.specs.Partial.{mask_of}
use Rattle.lane_spans.proofs.covering.covering_mask.Given as goal

abbrev pub invariant-loop-at : goal.invariant-loop-at
invariant-loop-at l = (l.at ≤ length l.lo) × (l.at % 16 ≡ 0) × (l.mask ≡ mask_of (lane_covers l.lo l.hi l.row) l.at (length l.lo - l.at))

abbrev pub decreases-loop-at : goal.decreases-loop-at
decreases-loop-at l = l.at
