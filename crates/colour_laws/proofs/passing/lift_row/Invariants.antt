use Rattle.std.proofs.Common.{◌≡◌}
use Rattle.colour_laws.proofs.Edited.{between_passed}
use Rattle.colour_laws.proofs.passing.lift_row.Given as goal

abbrev pub invariant-loop-column : goal.invariant-loop-column
invariant-loop-column l = l.colours ≡ between_passed l.quandle l.up l.strand l.left l.column l.fn.colours
