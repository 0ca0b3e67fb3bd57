use Rattle.std.proofs.Common.{◌≡◌, ◌<◌, ◌+◌, ℕ, false, not}
use Rattle.code_rows.specs.JoinedEdges.{is_joined}
use Rattle.code_rows.proofs.joined_edges.lowest_unjoined.Given as goal

abbrev pub invariant-loop-e : goal.invariant-loop-e
invariant-loop-e l = (j : ℕ) → j < l.e → not (is_joined l.crossings (j + 1)) ≡ false
