use Rattle.std.proofs.Common.{◌≡◌, ◌/◌, ◌%◌, map}
use Rattle.std.specs.List.{range_with_len}
use Rattle.cocycle_core.specs.Formula.{formula}
use Rattle.cocycle_core.proofs.formula.values.Given as goal

abbrev pub invariant-loop-place : goal.invariant-loop-place
invariant-loop-place l =
    (l.table.items ≡ map (λ k. formula l.p (k / l.p / l.p) (k / l.p % l.p) (k % l.p)) (range_with_len 0 l.place)) × (l.order ≡ l.p)
