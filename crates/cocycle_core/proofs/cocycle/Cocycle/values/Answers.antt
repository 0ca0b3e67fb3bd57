use Rattle.std.proofs.Common.{◌∙◌, ℕ, List, sym, ap, subst}
use Rattle.quandle_core.specs.Quandle.{Table}
use Rattle.cocycle_core.specs.Cocycle.{Cochain, IsCocycle}
use Rattle.cocycle_core.proofs.cocycle.Cocycle.values.Goals as goal

pub of_table-requires : goal.of_table-requires
of_table-requires c =
    let w : Table → List ℕ → Cochain = λ t es. record { quandle = t; modulus = c.self.inside.modulus; entries = es } in
    subst (λ (t : Table). IsCocycle (w t c.as_slice.result.now)) (sym c.operations.ensures)
    (subst (λ (es : List ℕ). IsCocycle (w c.self.inside.quandle es)) (sym c.as_slice.ensures.value) c.self.invariant)

pub returns : goal.returns
returns c =
    let w : Table → List ℕ → Cochain = λ t es. record { quandle = t; modulus = c.self.inside.modulus; entries = es } in
    c.of_table.ensures ∙ ap (λ (t : Table). w t c.as_slice.result.now) c.operations.ensures
    ∙ ap (λ (es : List ℕ). w c.self.inside.quandle es) c.as_slice.ensures.value ∙ c.self.view_is
