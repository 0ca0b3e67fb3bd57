use Rattle.std.proofs.Common.{arith}
use Rattle.std.proofs.lemmas.List.{get_or_default}
use Rattle.grid_core.specs.declared.mark.Corner.TheVariants.{LowLeft}
use Rattle.grid_core.specs.Corners.{corners}
use Rattle.grid_moves.specs.MoveLists.{stabilisation}
use Rattle.search_jobs.proofs.Adding.{adds_taken}
use Rattle.search_jobs.proofs.candidates.stabilise_mark.Goals as goal

pub loop-corner-preserved : goal.loop-corner-preserved
loop-corner-preserved c =
    record {
      added = adds_taken c.args.grid.now
          (stabilisation c.args.column c.args.kind) corners c.loop-corner.corner-index _ c.args.list.now.items c.loop-corner.list.items
          c.try_move.new.list.items (omega arith) (get_or_default corners c.loop-corner.corner-index _ LowLeft (omega arith))
          c.loop-corner.invariant.added c.try_move.ensures.added;
      fits = omega (arith, c.loop-corner.invariant.fits, c.try_move.ensures.fits);
    }
