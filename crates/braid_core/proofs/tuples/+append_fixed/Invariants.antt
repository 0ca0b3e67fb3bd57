use Rattle.std.proofs.Common.{◌≡◌, ◌+◌, ◌-◌, ◌++◌, length, filter}
use Rattle.braid_core.specs.FixedPoints.{is_fixed, tuples_of}
use Rattle.braid_core.proofs.AllTuples.{begun_below}
use Rattle.braid_core.proofs.tuples.+append_fixed.Given as goal

abbrev pub decreases-append_fixed : goal.decreases-append_fixed
decreases-append_fixed l = l.braid.now.strands - length l.colours.now.items

abbrev pub invariant-loop-colour : goal.invariant-loop-colour
invariant-loop-colour l = (l.colours.items ≡ l.fn.colours.items)
    × (tuples_of l.found.items ≡ tuples_of l.fn.found.items ++ filter (is_fixed l.quandle l.braid)
    (begun_below l.fn.colours.items l.quandle.order (l.braid.strands - (length l.fn.colours.items + 1)) l.colour))
