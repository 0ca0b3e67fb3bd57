use Rattle.std.proofs.Common.{arith}
use Rattle.lane_spans.proofs.Lanes.{covering_lanes}
use Rattle.lane_spans.proofs.sixteen.covering_block.Goals as goal

pub returns : goal.returns
returns c = covering_lanes c.args.lo.now c.args.hi.now c.args.row c.args.at 16 c.requires.same c.requires.inside (omega arith)
