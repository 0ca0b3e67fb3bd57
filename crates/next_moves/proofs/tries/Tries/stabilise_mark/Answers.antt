use Rattle.std.proofs.Common.{arith}
use Rattle.std.proofs.lemmas.List.{get_or_default}
use Rattle.grid_core.specs.declared.mark.Corner.TheVariants.{LowLeft}
use Rattle.grid_core.specs.Corners.{corners}
use Rattle.next_moves.specs.Tries.{try_stabilisation}
use Rattle.next_moves.proofs.Extended.{extends_taken}
use Rattle.next_moves.proofs.tries.Tries.stabilise_mark.Goals as goal

pub loop-corner-preserved : goal.loop-corner-preserved
loop-corner-preserved c =
    record {
      offered =
          extends_taken c.args.self.now.diagram c.args.self.now.cap
          (try_stabilisation c.args.column c.args.kind) corners c.loop-corner.corner-index _ c.args.list.now.items c.loop-corner.list.items
          c.stabilise_at.new.list.items (omega arith) (get_or_default corners c.loop-corner.corner-index _ LowLeft (omega arith))
          c.loop-corner.invariant.offered c.stabilise_at.ensures.offered;
      fits = omega (arith, c.loop-corner.invariant.fits, c.stabilise_at.ensures.fits);
    }
