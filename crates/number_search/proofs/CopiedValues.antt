-- The values of a shadow cocycle, place by place, are its table.
use Rattle.std.proofs.Common.{◌≡◌, ◌∙◌, ◌<◌, ◌+◌, ◌*◌, ◌/◌, ◌%◌, ℕ, length, get_or, map, refl, sym, ap}
use Rattle.std.specs.List.{range_with_len}
use Rattle.std.proofs.lemmas.Nat.{div-add-mod', mod_below, div_below}
use Rattle.std.proofs.lemmas.List.FromFn.{fill_by_all}
use Rattle.cocycle_core.specs.ShadowCocycle.{ShadowCochain, IsShadowCocycle, shadow_value}

pub parts_below : (q place : ℕ) → 0 < q → place < q * q * q → (place / q / q < q) × (place / q % q < q) × (place % q < q)
parts_below q place some lt = (div_below (place / q) q q some (div_below place q (q * q) some lt), mod_below (place / q) q some, mod_below place q some)

pub value_there : (t : ShadowCochain) (q place : ℕ) → q ≡ t.quandle.order
    → shadow_value t (place / q / q) (place / q % q) (place % q) ≡ get_or t.entries place 0
value_there t q place same =
    ap (λ (n : ℕ). get_or t.entries ((place / q / q * n + place / q % q) * n + place % q) 0) (sym same)
    ∙ (ap (λ (n : ℕ). get_or t.entries (n * q + place % q) 0) (div-add-mod' (place / q) q) ∙ ap (λ (n : ℕ). get_or t.entries n 0) (div-add-mod' place q))

pub all_values : (t : ShadowCochain) (q : ℕ) → IsShadowCocycle t → q ≡ t.quandle.order
    → map (λ k. get_or t.entries k 0) (range_with_len 0 (q * q * q)) ≡ t.entries
all_values t q is same =
    let long : length t.entries ≡ q * q * q = is.cube ∙ sym (ap (λ (n : ℕ). n * n * n) same) in
    sym (fill_by_all (λ k. get_or t.entries k 0) t.entries (q * q * q) 0 long (λ k lt. refl))
