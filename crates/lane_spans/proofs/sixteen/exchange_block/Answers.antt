use Rattle.std.proofs.Common.{arith}
use Rattle.lane_spans.proofs.Lanes.{exchange_lanes}
use Rattle.lane_spans.proofs.sixteen.exchange_block.Goals as goal

pub returns : goal.returns
returns c = exchange_lanes c.args.lo.now c.args.hi.now c.args.at 16 c.requires.same c.requires.inside (omega arith) c.requires.spans
