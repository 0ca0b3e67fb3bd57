use Rattle.std.proofs.Common.{◌≡◌, ◌<◌, ◌+◌, ◌-◌, ◌*◌, ◌%◌, ◌==◌, ℕ, true}
use Rattle.quandle_core.specs.Quandle.{over}
use Rattle.cocycle_core.proofs.dihedral.are_reflected.Given as goal

abbrev pub invariant-loop-y : goal.invariant-loop-y
invariant-loop-y l = (k : ℕ) → k < l.y → (over l.quandle l.x k == (2 * k + (l.quandle.order - l.x)) % l.quandle.order) ≡ true
