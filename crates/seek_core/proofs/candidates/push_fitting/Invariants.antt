use Rattle.std.proofs.Common.{◌≡◌, ◌++◌, take}
use Rattle.seek_core.specs.Candidates.{fitting}
use Rattle.seek_core.proofs.candidates.push_fitting.Given as goal

abbrev pub invariant-loop-listed : goal.invariant-loop-listed
invariant-loop-listed l = l.tried.items ≡ l.fn.tried.items ++ fitting l.first l.second l.others (take l.listed-index l.quandles)
