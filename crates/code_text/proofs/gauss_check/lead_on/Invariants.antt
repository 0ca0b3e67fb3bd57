use Rattle.std.proofs.Common.{◌≡◌, length}
use Rattle.code_text.specs.GaussCheck.{lead_on}
use Rattle.code_text.proofs.gauss_check.lead_on.Given as goal

abbrev pub invariant-loop-left : goal.invariant-loop-left
invariant-loop-left l = lead_on l.crossings l.first l.left ≡ lead_on l.crossings l.first l.walk

abbrev pub decreases-loop-left : goal.decreases-loop-left
decreases-loop-left l = length l.left
