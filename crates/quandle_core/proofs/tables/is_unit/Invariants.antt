use Rattle.std.proofs.Common.{◌≡◌, ◌<◌, ◌==◌, ◌*◌, ◌%◌, ℕ, false}
use Rattle.quandle_core.proofs.tables.is_unit.Given as goal

abbrev pub invariant-loop-u : goal.invariant-loop-u
invariant-loop-u l = (k : ℕ) → k < l.u → ((l.t * k) % l.n == 1 % l.n) ≡ false
