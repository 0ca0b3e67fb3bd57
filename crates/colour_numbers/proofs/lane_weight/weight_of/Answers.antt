use Rattle.std.proofs.Common.{◌∙◌, ◌+◌, ◌%◌, ℕ, ap, arith}
use Rattle.colour_numbers.specs.Lanes.{lane_weight}
use Rattle.colour_numbers.proofs.Lanes.{weights_more}
use Rattle.colour_numbers.proofs.lane_weight.weight_of.Goals as goal

pub loop-lane-preserved : goal.loop-lane-preserved
loop-lane-preserved c = (
  weights_more (λ l. lane_weight c.args.cocycle.now l c.args.colours.now c.args.outer) c.args.lanes.now c.loop-lane.lane-index c.args.cocycle.now.modulus
      c.loop-lane.sum c.lane_weight.result c.plus-sum.result c.lane-item.result (omega (arith, c.modulus-modulus.ensures.cocycle.least))
      c.loop-lane-test.true c.lane-item.is c.loop-lane.invariant.0 c.lane_weight.ensures.weight
      (c.plus-sum.ensures.sum ∙ ap (λ (k : ℕ). (c.loop-lane.sum + c.lane_weight.result) % k) c.modulus-modulus.ensures.modulus),
  omega (arith, c.plus-sum.ensures.below, c.modulus-modulus.ensures.modulus),
)
