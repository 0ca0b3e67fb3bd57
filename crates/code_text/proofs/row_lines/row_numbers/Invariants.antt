use Rattle.std.proofs.Common.{◌≡◌, ℕ, List, length}
use Rattle.std.specs.Prelude.{filter}
use Rattle.text_lines.specs.NumberTokens.{number_of}
use Rattle.text_items.proofs.Values.{GoesOn}
use Rattle.code_text.specs.RowLines.{says_something, row_numbers}
use Rattle.code_text.proofs.row_lines.row_numbers.Given as goal

abbrev pub invariant-loop-token : goal.invariant-loop-token
invariant-loop-token l =
    GoesOn number_of (λ (names : List ℕ). l.names.items ≡ names) (filter says_something l.line.tokens) (row_numbers l.fn.line) l.fn.line.number

abbrev pub decreases-loop-token : goal.decreases-loop-token
decreases-loop-token l = length l.line.tokens
