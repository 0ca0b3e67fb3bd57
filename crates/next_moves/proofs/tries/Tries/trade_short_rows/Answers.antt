use Rattle.std.proofs.Common.{arith}
use Rattle.grid_core.specs.Diagram.{size}
use Rattle.next_moves.specs.Tries.{row_trade_tries}
use Rattle.next_moves.proofs.Extended.{extends_flat_more}
use Rattle.next_moves.proofs.tries.Tries.trade_short_rows.Goals as goal

pub loop-r-preserved : goal.loop-r-preserved
loop-r-preserved c =
    let d = c.args.self.now.diagram in
    record {
      offered =
          extends_flat_more d c.args.self.now.cap (row_trade_tries (size d)) c.loop-r.r c.args.list.now.items c.loop-r.list.items
          c.trade_short_row.new.list.items c.loop-r.invariant.offered c.trade_short_row.ensures.offered;
      fits = omega (arith, c.loop-r.invariant.fits, c.trade_short_row.ensures.fits);
    }
