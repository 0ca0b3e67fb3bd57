use Rattle.std.proofs.Common.{◌≡◌, None}
use Rattle.quandle_core.specs.Fault.{first}
use Rattle.cocycle_core.specs.ShadowFault.{shadow_diagonal_case}
use Rattle.cocycle_core.proofs.shadow_fault.diagonal_fault.Given as goal

abbrev pub invariant-loop-w : goal.invariant-loop-w
invariant-loop-w l =
    first l.w (λ w. first l.quandle.order (λ x. shadow_diagonal_case (record { quandle = l.quandle; modulus = l.modulus; entries = l.table }) w x))
    ≡ None

abbrev pub invariant-loop-x : goal.invariant-loop-x
invariant-loop-x l = first l.x (λ x. shadow_diagonal_case (record { quandle = l.quandle; modulus = l.modulus; entries = l.table }) l.w x) ≡ None
