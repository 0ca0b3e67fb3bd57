use Rattle.std.proofs.Common.{◌≡◌, ◌∙◌, ℕ, List, sym, ap₂, subst}
use Rattle.quandle_core.specs.Quandle.{Table}
use Rattle.cocycle_core.specs.Cocycle.{Cochain, IsCocycle}
use Rattle.cocycle_core.proofs.large.LargeCocycle.copy.Goals as goal

same : goal.returns
same c =
    let w : Table → List ℕ → Cochain = λ t es. record { quandle = t; modulus = c.self.inside.modulus; entries = es } in
    ap₂ w (c.in_ok-quandle.ensures ∙ c.operations-operations.ensures) (c.in_ok-table.ensures ∙ c.as_slice.ensures.value) ∙ c.self.view_is

pub returns : goal.returns
returns c = same c

pub invariant_of-result : goal.invariant_of-result
invariant_of-result c =
    let w : Table → List ℕ → Cochain = λ t es. record { quandle = t; modulus = c.self.inside.modulus; entries = es } in
    subst IsCocycle
    (sym (ap₂ w (c.in_ok-quandle.ensures ∙ c.operations-operations.ensures) (c.in_ok-table.ensures ∙ c.as_slice.ensures.value))) c.self.invariant
