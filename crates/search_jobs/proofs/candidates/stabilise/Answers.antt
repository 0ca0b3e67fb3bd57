use Rattle.std.proofs.Common.{map, arith}
use Rattle.grid_core.specs.declared.mark.Kind.TheVariants.{Cross, Ring}
use Rattle.grid_core.specs.Corners.{corners}
use Rattle.grid_moves.specs.MoveLists.{stabilisation, stabilisations}
use Rattle.search_jobs.proofs.Adding.{adds_then, adds_flat_more}
use Rattle.search_jobs.proofs.candidates.stabilise.Goals as goal

pub loop-c-preserved : goal.loop-c-preserved
loop-c-preserved c =
    record {
      added = adds_flat_more c.args.grid.now stabilisations c.loop-c.c c.args.list.now.items c.loop-c.list.items
          c.stabilise_mark-in-loop-c.new.list.items c.loop-c.invariant.added
          (adds_then c.args.grid.now (map (stabilisation c.loop-c.c Cross) corners)
          (map (stabilisation c.loop-c.c Ring) corners) c.loop-c.list.items c.stabilise_mark.new.list.items c.stabilise_mark-in-loop-c.new.list.items
          c.stabilise_mark.ensures.added c.stabilise_mark-in-loop-c.ensures.added);
      fits = omega (arith, c.loop-c.invariant.fits, c.stabilise_mark.ensures.fits, c.stabilise_mark-in-loop-c.ensures.fits);
    }
