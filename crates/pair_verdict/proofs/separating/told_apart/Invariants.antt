use Rattle.std.proofs.Common.{◌≡◌, None, take}
use Rattle.pair_verdict.specs.Separates.{first_separating}
use Rattle.pair_verdict.proofs.separating.told_apart.Given as goal

-- none of the quandles so far separates the diagrams
abbrev pub invariant-loop-listed : goal.invariant-loop-listed
invariant-loop-listed l = first_separating l.first l.second (take l.listed-index l.quandles) ≡ None
