use Rattle.std.proofs.Common.{map, refl, arith}
use Rattle.grid_core.specs.declared.mark.Kind.TheVariants.{Cross, Ring}
use Rattle.grid_core.specs.Corners.{corners}
use Rattle.next_moves.specs.Tries.{try_stabilisation, stabilisation_tries}
use Rattle.next_moves.proofs.Extended.{extends_then, extends_flat_more, extends_too_large}
use Rattle.next_moves.proofs.tries.Tries.stabilise.Goals as goal

pub loop-c-preserved : goal.loop-c-preserved
loop-c-preserved c =
    record {
      offered =
          extends_flat_more c.args.self.now.diagram c.args.self.now.cap stabilisation_tries c.loop-c.c c.args.list.now.items c.loop-c.list.items
          c.stabilise_mark-in-loop-c.new.list.items c.loop-c.invariant.offered
          (extends_then c.args.self.now.diagram c.args.self.now.cap (map (try_stabilisation c.loop-c.c Cross) corners)
          (map (try_stabilisation c.loop-c.c Ring) corners) c.loop-c.list.items c.stabilise_mark.new.list.items c.stabilise_mark-in-loop-c.new.list.items
          c.stabilise_mark.ensures.offered c.stabilise_mark-in-loop-c.ensures.offered);
      fits = omega (arith, c.loop-c.invariant.fits, c.stabilise_mark.ensures.fits, c.stabilise_mark-in-loop-c.ensures.fits);
    }

pub returns-then-size-cap : goal.returns-then-size-cap
returns-then-size-cap c =
    record {
      offered =
          extends_too_large c.args.self.now.diagram c.args.self.now.cap c.args.list.now.items c.args.list.now.items (omega arith) refl;
      fits = omega arith;
    }
