use Rattle.std.proofs.Common.{◌≡◌, ◌<◌, ◌+◌, ◌-◌, ◌*◌, ◌%◌, ◌==◌, ℕ, true}
use Rattle.std.specs.List.{list_all, range_with_len}
use Rattle.quandle_core.specs.Quandle.{over}
use Rattle.cocycle_core.proofs.dihedral.is_dihedral.Given as goal

abbrev pub invariant-loop-x : goal.invariant-loop-x
invariant-loop-x l =
    (k : ℕ) → k < l.x
    → list_all (λ y. over l.quandle k y == (2 * y + (l.quandle.order - k)) % l.quandle.order) (range_with_len 0 l.quandle.order) ≡ true
