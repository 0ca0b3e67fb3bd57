use Rattle.std.proofs.Common.{arith}
use Rattle.colour_list.specs.Level.{with_left}
use Rattle.colour_list.proofs.Edits.{mapped_next}
use Rattle.colour_list.proofs.level.solve_left.Goals as goal

pub loop-i-preserved : goal.loop-i-preserved
loop-i-preserved c =
    mapped_next (with_left c.args.quandle.now c.args.row.now) c.args.level.now.items c.loop-i.level.items c.loop-i.i c.index_mut.result.now
    c.close_left.new.colours (omega arith) c.loop-i.invariant c.index_mut.ensures.value c.close_left.ensures
