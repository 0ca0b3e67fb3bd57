use Rattle.std.proofs.Common.{◌≡◌, ℤ, List, length}
use Rattle.text_items.specs.Braids.{letter_of, letters}
use Rattle.text_items.proofs.Values.{GoesOn}
use Rattle.number_text.proofs.number_lines.letter_list.Given as goal

abbrev pub invariant-loop-token : goal.invariant-loop-token
invariant-loop-token l = GoesOn letter_of (λ (values : List ℤ). l.list.items ≡ values) l.line.tokens (letters l.fn.line) l.fn.line.number

abbrev pub decreases-loop-token : goal.decreases-loop-token
decreases-loop-token l = length l.line.tokens
