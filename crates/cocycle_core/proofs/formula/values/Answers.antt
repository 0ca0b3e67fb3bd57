use Rattle.std.proofs.Common.{◌/◌, ◌%◌}
use Rattle.quandle_core.proofs.Entries.{entries_more}
use Rattle.cocycle_core.specs.Formula.{formula}
use Rattle.cocycle_core.proofs.formula.values.Goals as goal

pub loop-place-preserved : goal.loop-place-preserved
loop-place-preserved c = (
  entries_more (λ k. formula c.args.p (k / c.args.p / c.args.p) (k / c.args.p % c.args.p) (k % c.args.p)) c.loop-place.table.items c.push.new.self.items
      c.loop-place.place _ c.loop-place.invariant.0 c.in_ok-push.ensures.items c.value_at.ensures,
  c.loop-place.invariant.1,
)
