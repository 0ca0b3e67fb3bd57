-- The weight of a colouring with a colour of the outer region by a shadow cocycle: the sum, over all crossings, of the sign
-- times θ(w, x, y) (Carter, Kamada and Saito 2001).
use Rattle.std.specs.Prelude.{ℕ, ◌+◌, ◌-◌, ◌%◌, not, List, filter, slice_index, if◌then◌else◌}
use Rattle.std.specs.List.{range_with_len, sum_by}
use Rattle.grid_core.specs.Diagram.{Diagram, size}
use Rattle.grid_core.specs.Crossing.{is_positive}
use Rattle.grid_core.specs.Parts.{is_up}
use Rattle.quandle_core.specs.Quandle.{Table}
use Rattle.colour_rows.specs.Walk.{under, passed, walk_to}
use Rattle.cocycle_core.specs.ShadowCocycle.{ShadowCochain, shadow_value}
use Rattle.colour_weights.specs.Region.{region_beside}

-- the colour of row r's strand on the right-hand side of column c, which passes over it: behind an up column, before a down one
abbrev pub colour_beside : Table → Diagram → List ℕ → ℕ → ℕ → ℕ
colour_beside t d colours c r =
    if is_up d c then under t d colours (walk_to t d colours r c) c else walk_to t d colours r c

-- θ(w, x, y) of the crossing of column c over row r: y is the colour of the column, x that of the strand under it on the column's right-hand side,
-- and w that of the region on the right-hand side of both
abbrev pub shadow_crossing_value : ShadowCochain → Diagram → List ℕ → ℕ → ℕ → ℕ → ℕ
shadow_crossing_value t d colours outer c r =
    shadow_value t (region_beside t.quandle d colours outer c r) (colour_beside t.quandle d colours c r) (slice_index colours c)

-- the sum over the positive crossings, and over the negative ones
abbrev pub shadow_positive_sum : ShadowCochain → Diagram → List ℕ → ℕ → ℕ
shadow_positive_sum t d colours outer =
    sum_by (λ r. sum_by (λ c. shadow_crossing_value t d colours outer c r) (filter (λ c. is_positive d c r) (passed d r))) (range_with_len 0 (size d))

-- the sum over the negative crossings
abbrev pub shadow_negative_sum : ShadowCochain → Diagram → List ℕ → ℕ → ℕ
shadow_negative_sum t d colours outer =
    sum_by (λ r. sum_by (λ c. shadow_crossing_value t d colours outer c r) (filter (λ c. not (is_positive d c r)) (passed d r))) (range_with_len 0 (size d))

-- a - b mod k
abbrev pub difference : ℕ → ℕ → ℕ → ℕ
difference k a b = (a + (k - b % k)) % k

-- the one sum less the other, mod the modulus
abbrev pub shadow_weight : ShadowCochain → Diagram → List ℕ → ℕ → ℕ
shadow_weight t d colours outer = difference t.modulus (shadow_positive_sum t d colours outer) (shadow_negative_sum t d colours outer)
