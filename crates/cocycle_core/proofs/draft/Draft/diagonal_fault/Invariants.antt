use Rattle.std.proofs.Common.{◌≡◌, None}
use Rattle.quandle_core.specs.Fault.{first}
use Rattle.cocycle_core.specs.Fault.{diagonal_case}
use Rattle.cocycle_core.proofs.draft.Draft.diagonal_fault.Given as goal

abbrev pub invariant-loop-x : goal.invariant-loop-x
invariant-loop-x l = first l.x (λ x. diagonal_case l.self x) ≡ None
