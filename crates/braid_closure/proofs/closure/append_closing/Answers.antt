use Rattle.std.proofs.Common.{◌-◌, arith, refl}
use Rattle.braid_closure.proofs.Built.{closing_step}
use Rattle.braid_closure.proofs.closure.append_closing.Goals as goal

pub loop-done-preserved : goal.loop-done-preserved
loop-done-preserved c = (
  closing_step c.args.size c.args.strands c.loop-done.done (c.args.size - (c.args.strands - c.loop-done.done))
      (c.args.strands - c.loop-done.done - 1) c.args.columns.now.items c.loop-done.columns.items c.push.new.self.items
      c.loop-done-test.true refl refl c.loop-done.invariant.0 c.push.ensures.items,
  let size = c.push.ensures.len in let before = c.loop-done.invariant.1 in omega arith,
)
