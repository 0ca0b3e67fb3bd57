use Rattle.std.proofs.Common.{◌≡◌, ◌∙◌, ◌<◌, ◌+◌, ◌*◌, ℕ, List, length, subst, ap, sym}
use Rattle.std.specs.Prelude.{slice_index}
use Rattle.std.proofs.lemmas.Grind.{get_or_default_zero}
use Rattle.cocycle_core.specs.ShadowCocycle.{ShadowCochain, shadow_value}
use Rattle.cocycle_core.proofs.shadow_cocycle.ShadowCocycle.value.Goals as goal

pub returns-clause-below : goal.returns-clause-below
returns-clause-below c =
    let entries : List ℕ = c.self.inside.table.items in
    let t : ShadowCochain = record { quandle = c.self.inside.quandle; modulus = c.self.inside.modulus; entries = c.self.inside.table.items } in
    let order : c.order.result ≡ c.self.inside.quandle.order = c.order.ensures.order in
    let inside : c.place.result < length c.self.inside.table.items =
    subst (λ (n : ℕ). c.place.result < n) (ap (λ n. n * n * n) order ∙ sym c.self.invariant.cube) c.place.ensures.below in
    let is : c.index.result.now ≡ shadow_value t c.args.w c.args.x c.args.y =
    c.index.ensures ∙ (get_or_default_zero entries c.place.result c.index.result.now inside
    ∙ ap (slice_index entries) (c.place.ensures.place ∙ ap (λ n. (c.args.w * n + c.args.x) * n + c.args.y) order)) in
    let w = subst (λ (t : ShadowCochain). c.args.w < t.quandle.order) (sym c.self.view_is) c.requires.0 in
    let x = subst (λ (t : ShadowCochain). c.args.x < t.quandle.order) (sym c.self.view_is) c.requires.1 in
    let y = subst (λ (t : ShadowCochain). c.args.y < t.quandle.order) (sym c.self.view_is) c.requires.2 in
    subst (λ (t : ShadowCochain). c.index.result.now < t.modulus) c.self.view_is
    (subst (λ (n : ℕ). n < c.self.inside.modulus) (sym is) (c.self.invariant.within c.args.w c.args.x c.args.y w x y))
