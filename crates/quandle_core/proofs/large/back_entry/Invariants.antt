use Rattle.std.proofs.Common.{◌≡◌, ◌<◌, ◌==◌, ℕ, false}
use Rattle.quandle_core.specs.Quandle.{over}
use Rattle.quandle_core.proofs.large.back_entry.Given as goal

abbrev pub invariant-loop-z : goal.invariant-loop-z
invariant-loop-z l = (k : ℕ) → k < l.z → (over (record { order = l.order; entries = l.table }) k l.y == l.x) ≡ false
