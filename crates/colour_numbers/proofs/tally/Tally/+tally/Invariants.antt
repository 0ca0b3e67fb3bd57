use Rattle.std.proofs.Common.{◌≡◌, ◌+◌, ◌*◌, length}
use Rattle.std.specs.List.{flat_map}
use Rattle.colour_list.specs.Level.{spread}
use Rattle.colour_seeds.specs.Leaves.{leaves}
use Rattle.colour_numbers.specs.Tallies.{tallied}
use Rattle.colour_numbers.proofs.tally.Tally.+tally.Given as goal

abbrev pub decreases-tally_each : goal.decreases-tally_each
decreases-tally_each g l = 2 * length l.steps.now + 1

abbrev pub decreases-tally_from : goal.decreases-tally_from
decreases-tally_from g l = 2 * length l.steps.now

abbrev pub invariant-tally_each-loop-colour : goal.invariant-tally_each-loop-colour
invariant-tally_each-loop-colour g l =
    let w = l.self.weigher.now in
    l.counts ≡ tallied (g.W.Weigher.modulus w) (g.W.Weigher.often w) l.fn.counts
    (flat_map (leaves (g.W.Weigher.quandle w) l.self.grid.now l.steps) (spread l.colour l.column l.colours))
