use Rattle.std.proofs.Common.{◌≡◌, None}
use Rattle.quandle_core.specs.Fault.{first}
use Rattle.cocycle_core.specs.Fault.{cocycle_range_case}
use Rattle.cocycle_core.proofs.draft.Draft.range_fault.Given as goal

abbrev pub invariant-loop-x : goal.invariant-loop-x
invariant-loop-x l =
    first l.x (λ x. first l.self.quandle.order (λ y. cocycle_range_case l.self x y)) ≡ None

abbrev pub invariant-loop-y : goal.invariant-loop-y
invariant-loop-y l = first l.y (λ y. cocycle_range_case l.self l.x y) ≡ None
