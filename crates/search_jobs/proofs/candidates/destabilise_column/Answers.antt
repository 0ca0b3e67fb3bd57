use Rattle.std.proofs.Common.{arith}
use Rattle.grid_moves.specs.MoveLists.{destabilisation}
use Rattle.search_jobs.proofs.Adding.{adds_more}
use Rattle.search_jobs.proofs.candidates.destabilise_column.Goals as goal

pub loop-row-preserved : goal.loop-row-preserved
loop-row-preserved c =
    record {
      added = adds_more c.args.grid.now (destabilisation c.args.column) c.loop-row.row c.args.list.now.items c.loop-row.list.items
          c.try_move.new.list.items c.loop-row.invariant.added c.try_move.ensures.added;
      fits = omega (arith, c.loop-row.invariant.fits, c.try_move.ensures.fits);
    }
