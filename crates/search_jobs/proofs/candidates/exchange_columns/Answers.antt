use Rattle.std.proofs.Common.{arith}
use Rattle.grid_moves.specs.MoveLists.{column_exchange}
use Rattle.search_jobs.proofs.Adding.{adds_more}
use Rattle.search_jobs.proofs.candidates.exchange_columns.Goals as goal

pub loop-c-preserved : goal.loop-c-preserved
loop-c-preserved c =
    record {
      added = adds_more c.args.grid.now column_exchange c.loop-c.c c.args.list.now.items c.loop-c.list.items c.try_move.new.list.items
          c.loop-c.invariant.added c.try_move.ensures.added;
      fits = omega (arith, c.loop-c.invariant.fits, c.try_move.ensures.fits);
    }
