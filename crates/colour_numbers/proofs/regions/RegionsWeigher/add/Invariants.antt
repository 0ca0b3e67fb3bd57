use Rattle.std.proofs.Common.{◌≡◌}
use Rattle.colour_numbers.proofs.ShadowTallies.{partly}
use Rattle.colour_numbers.proofs.regions.RegionsWeigher.add.Given as goal

abbrev pub invariant-loop-outer : goal.invariant-loop-outer
invariant-loop-outer l = l.counts ≡ partly l.self.cocycle l.self.diagram l.fn.counts l.colours l.outer
