use Rattle.std.proofs.Common.{arith}
use Rattle.grid_moves.specs.MoveLists.{row_shift}
use Rattle.search_jobs.proofs.Adding.{adds_more_from_one}
use Rattle.search_jobs.proofs.candidates.shift_rows.Goals as goal

pub loop-k-preserved : goal.loop-k-preserved
loop-k-preserved c =
    record {
      added = adds_more_from_one c.args.grid.now row_shift c.loop-k.k c.args.list.now.items c.loop-k.list.items c.try_move.new.list.items
          (omega arith) c.loop-k.invariant.added c.try_move.ensures.added;
      fits = omega (arith, c.loop-k.invariant.fits, c.try_move.ensures.fits);
    }
