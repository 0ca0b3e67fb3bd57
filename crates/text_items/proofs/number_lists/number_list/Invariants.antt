use Rattle.std.proofs.Common.{◌≡◌, ℕ, List, length}
use Rattle.text_lines.specs.NumberTokens.{number_of}
use Rattle.text_items.specs.NumberLists.{line_numbers}
use Rattle.text_items.proofs.Values.{GoesOn}
use Rattle.text_items.proofs.number_lists.number_list.Given as goal

abbrev pub invariant-loop-token : goal.invariant-loop-token
invariant-loop-token l = GoesOn number_of (λ (values : List ℕ). l.list.items ≡ values) l.line.tokens (line_numbers l.fn.line) l.fn.line.number

abbrev pub decreases-loop-token : goal.decreases-loop-token
decreases-loop-token l = length l.line.tokens
