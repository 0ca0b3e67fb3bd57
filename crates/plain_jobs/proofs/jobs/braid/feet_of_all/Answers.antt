use Rattle.std.proofs.Common.{ℕ, sym, subst}
use Rattle.arrayvec.specs.ArrayVec.{ArrayVec}
use Rattle.colour_rows.specs.Colouring.{IsColouring}
use Rattle.plain_jobs.proofs.jobs.braid.feet_of_all.Goals as goal

pub feet_of-requires : goal.feet_of-requires
feet_of-requires c =
    subst (λ (x : ArrayVec ℕ). IsColouring c.args.quandle.now c.args.grid.now x.items) (sym c.colours-item.is)
    (c.requires c.loop-colours.colours-index c.colours-item.result c.loop-colours-test.true)
