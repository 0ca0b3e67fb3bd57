use Rattle.std.proofs.Common.{◌≡◌, length}
use Rattle.crossing_codes.specs.declared.edges.TheConstants.{MAX_SLOTS}
use Rattle.crossing_codes.proofs.Slots.{HasFirst}
use Rattle.crossing_codes.proofs.edges.numbers_of.Given as goal

abbrev pub invariant-loop-number : goal.invariant-loop-number
invariant-loop-number l = (length l.numbers ≡ MAX_SLOTS) × HasFirst l.passages l.numbers l.number
