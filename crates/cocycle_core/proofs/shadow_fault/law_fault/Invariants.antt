use Rattle.std.proofs.Common.{◌≡◌, None}
use Rattle.quandle_core.specs.Fault.{first}
use Rattle.cocycle_core.specs.ShadowFault.{shadow_law_case}
use Rattle.cocycle_core.proofs.shadow_fault.law_fault.Given as goal

abbrev pub invariant-loop-a : goal.invariant-loop-a
invariant-loop-a l = first l.a (λ a. first l.quandle.order (λ b. first l.quandle.order
    (λ c. first l.quandle.order (λ d. shadow_law_case (record { quandle = l.quandle; modulus = l.modulus; entries = l.table }) a b c d)))) ≡ None

abbrev pub invariant-loop-b : goal.invariant-loop-b
invariant-loop-b l = first l.b (λ b. first l.quandle.order (λ c. first l.quandle.order
    (λ d. shadow_law_case (record { quandle = l.quandle; modulus = l.modulus; entries = l.table }) l.a b c d))) ≡ None

abbrev pub invariant-loop-c : goal.invariant-loop-c
invariant-loop-c l = first l.c (λ c. first l.quandle.order (λ d. shadow_law_case
    (record { quandle = l.quandle; modulus = l.modulus; entries = l.table }) l.a l.b c d)) ≡ None

abbrev pub invariant-loop-d : goal.invariant-loop-d
invariant-loop-d l = first l.d (λ d. shadow_law_case (record { quandle = l.quandle; modulus = l.modulus; entries = l.table }) l.a l.b l.c d) ≡ None
