use Rattle.std.proofs.Common.{◌≡◌}
use Rattle.crossing_codes.proofs.GaussSteps.{lines_so_far}
use Rattle.crossing_codes.proofs.printed.gauss_text.Given as goal

abbrev pub invariant-loop-start : goal.invariant-loop-start
invariant-loop-start l = l.out.items ≡ lines_so_far l.layout l.start-items l.start-index
