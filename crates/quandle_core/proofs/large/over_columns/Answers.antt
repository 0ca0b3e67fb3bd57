use Rattle.std.proofs.Common.{◌/◌, ◌%◌}
use Rattle.quandle_core.specs.Quandle.{Table, over}
use Rattle.quandle_core.proofs.Entries.{entries_more}
use Rattle.quandle_core.proofs.large.over_columns.Goals as goal

pub loop-place-preserved : goal.loop-place-preserved
loop-place-preserved c =
    let t : Table = record { order = c.args.order; entries = c.args.table.now } in (
      entries_more (λ k. over t (k % c.args.order) (k / c.args.order)) c.loop-place.cells.items c.push.new.self.items c.loop-place.place
          _ c.loop-place.invariant.0 c.in_ok-push.ensures.items c.entry-value.ensures,
      c.loop-place.invariant.1,
    )
