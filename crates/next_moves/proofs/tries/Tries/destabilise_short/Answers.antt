use Rattle.std.proofs.Common.{arith}
use Rattle.grid_core.specs.Diagram.{size}
use Rattle.next_moves.specs.Tries.{block_tries}
use Rattle.next_moves.proofs.Extended.{extends_flat_more}
use Rattle.next_moves.proofs.tries.Tries.destabilise_short.Goals as goal

pub loop-column-preserved : goal.loop-column-preserved
loop-column-preserved c =
    let d = c.args.self.now.diagram in
    record {
      offered =
          extends_flat_more d c.args.self.now.cap (block_tries (size d)) c.loop-column.column c.args.list.now.items c.loop-column.list.items
          c.destabilise_short_column.new.list.items c.loop-column.invariant.offered c.destabilise_short_column.ensures.offered;
      fits = omega (arith, c.loop-column.invariant.fits, c.destabilise_short_column.ensures.fits);
    }
