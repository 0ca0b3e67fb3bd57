use Rattle.std.proofs.Common.{◌≡◌, ◌<◌, ◌≤◌, ◌==◌, ℕ, false}
use Rattle.std.specs.Prelude.{slice_index}
use Rattle.code_rows.proofs.row_signs.end_from.Given as goal

abbrev pub invariant-loop-end : goal.invariant-loop-end
invariant-loop-end l = (k : ℕ) → l.from ≤ k → k < l.end → (slice_index l.names k == l.edge) ≡ false
