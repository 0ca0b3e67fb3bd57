use Rattle.std.proofs.Common.{arith}
use Rattle.grid_core.specs.Diagram.{size}
use Rattle.next_moves.specs.Tries.{column_trade_tries}
use Rattle.next_moves.proofs.Extended.{extends_flat_more}
use Rattle.next_moves.proofs.tries.Tries.trade_short_columns.Goals as goal

pub loop-c-preserved : goal.loop-c-preserved
loop-c-preserved c =
    let d = c.args.self.now.diagram in
    record {
      offered =
          extends_flat_more d c.args.self.now.cap (column_trade_tries (size d)) c.loop-c.c c.args.list.now.items c.loop-c.list.items
          c.trade_short_column.new.list.items c.loop-c.invariant.offered c.trade_short_column.ensures.offered;
      fits = omega (arith, c.loop-c.invariant.fits, c.trade_short_column.ensures.fits);
    }
