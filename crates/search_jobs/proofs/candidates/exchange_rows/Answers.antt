use Rattle.std.proofs.Common.{arith}
use Rattle.grid_moves.specs.MoveLists.{row_exchange}
use Rattle.search_jobs.proofs.Adding.{adds_more}
use Rattle.search_jobs.proofs.candidates.exchange_rows.Goals as goal

pub loop-r-preserved : goal.loop-r-preserved
loop-r-preserved c =
    record {
      added = adds_more c.args.grid.now row_exchange c.loop-r.r c.args.list.now.items c.loop-r.list.items c.try_move.new.list.items
          c.loop-r.invariant.added c.try_move.ensures.added;
      fits = omega (arith, c.loop-r.invariant.fits, c.try_move.ensures.fits);
    }
