use Rattle.std.proofs.Common.{◌≡◌, ◌+◌, ◌-◌, ◌*◌, ◌<◌, ◌≤◌, ◌^◌, length, arith}
use Rattle.lane_spans.specs.Columns.{trades}
use Rattle.lane_spans.specs.Partial.{mask_of}
use Rattle.lane_spans.proofs.Masks.{mask_of-block, mask_of-small, mask_of-bits}
use Rattle.lane_spans.proofs.Lanes.{trades_past}
use Rattle.lane_spans.proofs.exchange.exchange_mask.Goals as goal

-- sixteen columns more in front
grown : (c : goal.After-exchange_block) → c.exchange_block.result + 65536 * c.loop-at.mask
    ≡ mask_of (trades c.args.lo.now c.args.hi.now) (c.loop-at.at - 16) (length c.args.lo.now - (c.loop-at.at - 16))
grown c =
    let some : 16 ≤ c.loop-at.at = omega (arith, c.loop-at.invariant.1, c.loop-at-test.true) in
    mask_of-block (trades c.args.lo.now c.args.hi.now) (c.loop-at.at - 16) 16 c.loop-at.at (length c.args.lo.now) c.exchange_block.result c.loop-at.mask
    (omega arith) (omega arith) c.exchange_block.ensures c.loop-at.invariant.2

small : (c : goal.After-exchange_block) → c.exchange_block.result + 65536 * c.loop-at.mask < 2 ^ 64
small c = omega (
  arith,
  grown c,
  mask_of-small (trades c.args.lo.now c.args.hi.now) (c.loop-at.at - 16) (length c.args.lo.now - (c.loop-at.at - 16))
      (omega arith),
)

pub overflow_mul-mask : goal.overflow_mul-mask
overflow_mul-mask c = omega (arith, small c)

pub overflow_add-mask : goal.overflow_add-mask
overflow_add-mask c = omega (arith, small c)

pub loop-at-preserved : goal.loop-at-preserved
loop-at-preserved c = (omega arith, omega (arith, c.loop-at.invariant.1, c.loop-at-test.true), grown c)

pub returns : goal.returns
returns c = record {
  bits = λ k. mask_of-bits (trades c.args.lo.now c.args.hi.now) (length c.args.lo.now) c.loop-at.at c.loop-at.mask k (omega arith) c.loop-at.invariant.2
      (trades_past c.args.lo.now c.args.hi.now k);
}
