use Rattle.std.proofs.Common.{length}
use Rattle.text_items.specs.Braids.{letter_of, letters, TellsLetters}
use Rattle.text_items.proofs.Values.{GoesOn}
use Rattle.text_items.proofs.braids.letters.Given as goal

abbrev pub invariant-loop-token : goal.invariant-loop-token
invariant-loop-token l = GoesOn letter_of (TellsLetters l.kept) l.line.tokens (letters l.fn.line) l.fn.line.number

abbrev pub decreases-loop-token : goal.decreases-loop-token
decreases-loop-token l = length l.line.tokens
