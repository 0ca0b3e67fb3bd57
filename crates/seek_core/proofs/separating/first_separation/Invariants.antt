use Rattle.std.proofs.Common.{◌≡◌, length}
use Rattle.pair_verdict.specs.Separates.{first_separating}
use Rattle.seek_core.proofs.separating.first_separation.Given as goal

-- none of the quandles so far separates the diagrams
abbrev pub invariant-loop-listed : goal.invariant-loop-listed
invariant-loop-listed l = first_separating l.first l.second l.left ≡ first_separating l.first l.second l.quandles

abbrev pub decreases-loop-listed : goal.decreases-loop-listed
decreases-loop-listed l = length l.left
