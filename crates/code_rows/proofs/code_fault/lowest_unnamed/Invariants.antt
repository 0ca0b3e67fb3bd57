use Rattle.std.proofs.Common.{◌≡◌, ◌<◌, ℕ, false, not, get_or}
use Rattle.crossing_codes.specs.CodeColouring.{names_edges}
use Rattle.code_rows.specs.CodeMap.{no_crossing}
use Rattle.code_rows.proofs.code_fault.lowest_unnamed.Given as goal

abbrev pub invariant-loop-k : goal.invariant-loop-k
invariant-loop-k l = (j : ℕ) → j < l.k → not (names_edges l.edges (get_or l.crossings j no_crossing)) ≡ false
