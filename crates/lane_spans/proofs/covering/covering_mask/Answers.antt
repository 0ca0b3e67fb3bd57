use Rattle.std.proofs.Common.{◌≡◌, ◌+◌, ◌-◌, ◌*◌, ◌<◌, ◌≤◌, ◌^◌, length, arith}
use Rattle.lane_spans.specs.Columns.{lane_covers}
use Rattle.lane_spans.specs.Partial.{mask_of}
use Rattle.lane_spans.proofs.Masks.{mask_of-block, mask_of-small, mask_of-bits}
use Rattle.lane_spans.proofs.Lanes.{covers_past}
use Rattle.lane_spans.proofs.covering.covering_mask.Goals as goal

-- sixteen columns more in front
grown : (c : goal.After-covering_block) → c.covering_block.result + 65536 * c.loop-at.mask
    ≡ mask_of (lane_covers c.args.lo.now c.args.hi.now c.args.row) (c.loop-at.at - 16) (length c.args.lo.now - (c.loop-at.at - 16))
grown c =
    let some : 16 ≤ c.loop-at.at = omega (arith, c.loop-at.invariant.1, c.loop-at-test.true) in
    mask_of-block (lane_covers c.args.lo.now c.args.hi.now c.args.row) (c.loop-at.at - 16) 16 c.loop-at.at
    (length c.args.lo.now) c.covering_block.result c.loop-at.mask (omega arith) (omega arith) c.covering_block.ensures c.loop-at.invariant.2

small : (c : goal.After-covering_block) → c.covering_block.result + 65536 * c.loop-at.mask < 2 ^ 64
small c = omega (
  arith,
  grown c,
  mask_of-small (lane_covers c.args.lo.now c.args.hi.now c.args.row) (c.loop-at.at - 16) (length c.args.lo.now - (c.loop-at.at - 16))
      (omega arith),
)

pub overflow_mul-mask : goal.overflow_mul-mask
overflow_mul-mask c = omega (arith, small c)

pub overflow_add-mask : goal.overflow_add-mask
overflow_add-mask c = omega (arith, small c)

pub loop-at-preserved : goal.loop-at-preserved
loop-at-preserved c = (omega arith, omega (arith, c.loop-at.invariant.1, c.loop-at-test.true), grown c)

pub returns : goal.returns
returns c = record {
  bits = λ k. mask_of-bits (lane_covers c.args.lo.now c.args.hi.now c.args.row) (length c.args.lo.now) c.loop-at.at c.loop-at.mask k
      (omega arith) c.loop-at.invariant.2 (covers_past c.args.lo.now c.args.hi.now c.args.row k);
}
