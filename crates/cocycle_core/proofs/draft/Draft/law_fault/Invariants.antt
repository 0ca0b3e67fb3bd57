use Rattle.std.proofs.Common.{◌≡◌, None}
use Rattle.quandle_core.specs.Fault.{first}
use Rattle.cocycle_core.specs.Fault.{law_case}
use Rattle.cocycle_core.proofs.draft.Draft.law_fault.Given as goal

abbrev pub invariant-loop-x : goal.invariant-loop-x
invariant-loop-x l =
    first l.x (λ x. first l.self.quandle.order
    (λ y. first l.self.quandle.order (λ z. law_case l.self x y z))) ≡ None

abbrev pub invariant-loop-y : goal.invariant-loop-y
invariant-loop-y l =
    first l.y (λ y. first l.self.quandle.order (λ z. law_case l.self l.x y z)) ≡ None

abbrev pub invariant-loop-z : goal.invariant-loop-z
invariant-loop-z l = first l.z (λ z. law_case l.self l.x l.y z) ≡ None
