use Rattle.std.proofs.Common.{◌≡◌, None}
use Rattle.quandle_core.specs.Fault.{first}
use Rattle.cocycle_core.specs.ShadowFault.{shadow_range_case}
use Rattle.cocycle_core.proofs.shadow_fault.range_fault.Given as goal

abbrev pub invariant-loop-w : goal.invariant-loop-w
invariant-loop-w l = first l.w (λ w. first l.quandle.order (λ x. first l.quandle.order
    (λ y. shadow_range_case (record { quandle = l.quandle; modulus = l.modulus; entries = l.table }) w x y))) ≡ None

abbrev pub invariant-loop-x : goal.invariant-loop-x
invariant-loop-x l =
    first l.x (λ x. first l.quandle.order (λ y. shadow_range_case (record { quandle = l.quandle; modulus = l.modulus; entries = l.table }) l.w x y))
    ≡ None

abbrev pub invariant-loop-y : goal.invariant-loop-y
invariant-loop-y l = first l.y (λ y. shadow_range_case (record { quandle = l.quandle; modulus = l.modulus; entries = l.table }) l.w l.x y) ≡ None
