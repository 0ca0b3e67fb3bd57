use Rattle.std.proofs.Common.{◌+◌, ◌*◌, ◌/◌, ◌%◌, arith}
use Rattle.quandle_core.proofs.Entries.{entries_more}
use Rattle.quandle_core.proofs.tables.linear_entries.Goals as goal

pub loop-place-preserved : goal.loop-place-preserved
loop-place-preserved c = (
  entries_more (λ k. (c.args.a * (k / c.args.n) + c.args.b * (k % c.args.n)) % c.args.n) c.loop-place.entries.items c.push.new.self.items c.loop-place.place
      _ c.loop-place.invariant.0 c.push.ensures.items c.linear_entry.ensures,
  omega (arith, c.push.ensures.len),
  c.loop-place.invariant.2,
)
