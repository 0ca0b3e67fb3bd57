use Rattle.std.proofs.Common.{◌≡◌, ◌<◌, ◌≤◌, ◌%◌, ◌==◌, ℕ, true, not}
use Rattle.cocycle_core.proofs.dihedral.has_no_divisor.Given as goal

abbrev pub invariant-loop-d : goal.invariant-loop-d
invariant-loop-d l = (k : ℕ) → k < l.d → 2 ≤ k → not (l.n % k == 0) ≡ true
