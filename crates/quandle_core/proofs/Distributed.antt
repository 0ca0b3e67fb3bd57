-- The map from x to x ◁ z respects both operations.
use Rattle.std.proofs.Common.{◌≡◌, ◌<◌, ◌∙◌, ℕ, sym, ap, ap₂}
use Rattle.quandle_core.specs.Quandle.{Table, IsQuandle, over, back}

pub back_over_kept : (t : Table) → IsQuandle t → (x y z : ℕ) → x < t.order → y < t.order → z < t.order
    → back t (over t x y) z ≡ over t (back t x z) (back t y z)
back_over_kept t q x y z at_x at_y at_z =
    let u = back t x z in
    let v = back t y z in
    let at_u = q.back_within x z at_x at_z in
    let at_v = q.back_within y z at_y at_z in
    let image : over t (over t u v) z ≡ over t x y = q.distributive u v z at_u at_v at_z
    ∙ ap₂ (over t) (q.over_back x z at_x at_z) (q.over_back y z at_y at_z) in
    ap (λ (w : ℕ). back t w z) (sym image) ∙ q.back_over (over t u v) z (q.within u v at_u at_v) at_z

pub back_back_kept : (t : Table) → IsQuandle t → (x y z : ℕ) → x < t.order → y < t.order → z < t.order
    → back t (back t x y) z ≡ back t (back t x z) (back t y z)
back_back_kept t q x y z at_x at_y at_z =
    let w = back t x y in
    let at_w = q.back_within x y at_x at_y in
    let image : over t (back t w z) (back t y z) ≡ back t x z = sym (back_over_kept t q w y z at_w at_y at_z)
    ∙ ap (λ (u : ℕ). back t u z) (q.over_back x y at_x at_y) in
    sym (q.back_over (back t w z) (back t y z) (q.back_within w z at_w at_z) (q.back_within y z at_y at_z)) ∙ ap (λ (u : ℕ). back t u (back t y z)) image
