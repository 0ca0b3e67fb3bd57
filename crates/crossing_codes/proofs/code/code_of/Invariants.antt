use Rattle.std.proofs.Common.{◌≡◌}
use Rattle.crossing_codes.proofs.CodeSteps.{crossed_below}
use Rattle.crossing_codes.proofs.code.code_of.Given as goal

abbrev pub invariant-loop-row : goal.invariant-loop-row
invariant-loop-row l = l.found.items ≡ crossed_below l.layout l.row
