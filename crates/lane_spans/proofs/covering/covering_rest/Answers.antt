use Rattle.std.proofs.Common.{◌≡◌, ◌+◌, ◌-◌, ◌*◌, ◌<◌, ◌^◌, length, arith}
use Rattle.lane_spans.specs.Columns.{lane_covers}
use Rattle.lane_spans.specs.Partial.{mask_of}
use Rattle.lane_spans.proofs.Masks.{mask_of-block, mask_of-small}
use Rattle.lane_spans.proofs.covering.covering_rest.Goals as goal

-- eight columns more in front
grown : (c : goal.After-covering_one_by_one-else-lo-at-lt8) → c.covering_block.result + 256 * c.covering_one_by_one-else-lo-at-lt8.result
    ≡ mask_of (lane_covers c.args.lo.now c.args.hi.now c.args.row) c.args.at (length c.args.lo.now - c.args.at)
grown c = mask_of-block (lane_covers c.args.lo.now c.args.hi.now c.args.row) c.args.at 8 (c.args.at + 8)
    (length c.args.lo.now) c.covering_block.result c.covering_one_by_one-else-lo-at-lt8.result (omega arith)
    (omega arith) c.covering_block.ensures c.covering_one_by_one-else-lo-at-lt8.ensures

small : (c : goal.After-covering_one_by_one-else-lo-at-lt8) → c.covering_block.result + 256 * c.covering_one_by_one-else-lo-at-lt8.result < 2 ^ 64
small c = omega (arith, grown c, mask_of-small (lane_covers c.args.lo.now c.args.hi.now c.args.row) c.args.at (length c.args.lo.now - c.args.at) (omega arith))

pub overflow_mul-result : goal.overflow_mul-result
overflow_mul-result c = omega (arith, small c)

pub overflow_add-result : goal.overflow_add-result
overflow_add-result c = omega (arith, small c)

pub returns-else-lo-at-lt8 : goal.returns-else-lo-at-lt8
returns-else-lo-at-lt8 c = grown c
