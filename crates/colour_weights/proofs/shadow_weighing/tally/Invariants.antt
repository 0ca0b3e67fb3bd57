use Rattle.std.proofs.Common.{◌≡◌, map}
use Rattle.std.specs.List.{range_with_len}
use Rattle.colour_weights.proofs.Tallies.{counted_before}
use Rattle.colour_weights.proofs.shadow_weighing.tally.Given as goal

abbrev pub invariant-loop-outer : goal.invariant-loop-outer
invariant-loop-outer l = l.counts ≡ map (counted_before l.cocycle l.grid l.list l.outer) (range_with_len 0 l.cocycle.modulus)
