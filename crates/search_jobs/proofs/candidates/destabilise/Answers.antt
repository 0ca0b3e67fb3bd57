use Rattle.std.proofs.Common.{arith}
use Rattle.grid_core.specs.Diagram.{size}
use Rattle.grid_moves.specs.MoveLists.{destabilisations}
use Rattle.search_jobs.proofs.Adding.{adds_flat_more}
use Rattle.search_jobs.proofs.candidates.destabilise.Goals as goal

pub loop-c-preserved : goal.loop-c-preserved
loop-c-preserved c =
    record {
      added = adds_flat_more c.args.grid.now (destabilisations
          (size c.args.grid.now)) c.loop-c.c c.args.list.now.items c.loop-c.list.items c.destabilise_column.new.list.items c.loop-c.invariant.added
          c.destabilise_column.ensures.added;
      fits = omega (arith, c.loop-c.invariant.fits, c.destabilise_column.ensures.fits);
    }
