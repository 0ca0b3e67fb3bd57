use Rattle.std.proofs.Common.{◌≡◌, ◌+◌, ◌-◌, ◌*◌, ◌<◌, ◌^◌, length, arith}
use Rattle.lane_spans.specs.Columns.{trades}
use Rattle.lane_spans.specs.Partial.{mask_of}
use Rattle.lane_spans.proofs.Masks.{mask_of-block, mask_of-small}
use Rattle.lane_spans.proofs.exchange.exchange_rest.Goals as goal

-- eight columns more in front
grown : (c : goal.After-exchange_one_by_one-else-lo-at-le8) → c.exchange_block.result + 256 * c.exchange_one_by_one-else-lo-at-le8.result
    ≡ mask_of (trades c.args.lo.now c.args.hi.now) c.args.at (length c.args.lo.now - c.args.at)
grown c = mask_of-block (trades c.args.lo.now c.args.hi.now) c.args.at 8 (c.args.at + 8)
    (length c.args.lo.now) c.exchange_block.result c.exchange_one_by_one-else-lo-at-le8.result (omega arith)
    (omega arith) c.exchange_block.ensures c.exchange_one_by_one-else-lo-at-le8.ensures

small : (c : goal.After-exchange_one_by_one-else-lo-at-le8) → c.exchange_block.result + 256 * c.exchange_one_by_one-else-lo-at-le8.result < 2 ^ 64
small c = omega (arith, grown c, mask_of-small (trades c.args.lo.now c.args.hi.now) c.args.at (length c.args.lo.now - c.args.at) (omega arith))

pub overflow_mul-result : goal.overflow_mul-result
overflow_mul-result c = omega (arith, small c)

pub overflow_add-result : goal.overflow_add-result
overflow_add-result c = omega (arith, small c)

pub returns-else-lo-at-le8 : goal.returns-else-lo-at-le8
returns-else-lo-at-le8 c = grown c
