use Rattle.std.proofs.Common.{◌≡◌, ◌/◌, ◌%◌, map, length}
use Rattle.std.specs.List.{range_with_len}
use Rattle.cocycle_core.specs.Formula.{quotient}
use Rattle.cocycle_core.proofs.formula.quotients.Given as goal

abbrev pub invariant-loop-place : goal.invariant-loop-place
invariant-loop-place l =
    (l.list.items ≡ map (λ k. quotient l.p (k / l.p) (k % l.p)) (range_with_len 0 l.place)) × (length l.list.items ≡ l.place) × (l.order ≡ l.p)
