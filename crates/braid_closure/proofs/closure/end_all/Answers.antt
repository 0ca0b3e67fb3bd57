use Rattle.std.proofs.Common.{◌∙◌, ◌-◌, arith, refl}
use Rattle.braid_closure.proofs.Built.{ended_at_top_step}
use Rattle.braid_closure.proofs.closure.end_all.Goals as goal

pub loop-done-preserved : goal.loop-done-preserved
loop-done-preserved c = (
  ended_at_top_step c.args.size c.args.strands c.loop-done.done (c.args.strands - c.loop-done.done)
      (c.args.size - (c.args.strands - c.loop-done.done)) c.args.columns.now.items c.loop-done.columns.items c.end.new.columns.items
      c.loop-done-test.true refl refl c.loop-done.invariant.0 c.end.ensures.columns,
  let count = c.end.ensures.count in let before = c.loop-done.invariant.1 in omega arith,
  c.end.ensures.size ∙ c.loop-done.invariant.2,
)
