-- The weight row by row: the weighted sum of a row's walk, taken as it is where the row runs to the right, and else taken away. All sums are mod the modulus.
-- A walk carries the colour of its strand and that of the region on the strand's right-hand side.
use Rattle.std.specs.Prelude.{ℕ, ◌+◌, ◌-◌, ◌%◌, Bool, List, filter, fold, slice_index, if◌then◌else◌}
use Rattle.std.specs.List.{range_with_len, sum_by}
use Rattle.grid_core.specs.Diagram.{Diagram, size}
use Rattle.grid_core.specs.Parts.{covers, ends, is_up, is_rightward}
use Rattle.quandle_core.specs.Quandle.{Table, back}
use Rattle.colour_rows.specs.Walk.{under, passed, passed_rightward}
use Rattle.colour_weights.specs.declared.shadow_walker.ShadowWalker.{ShadowWalker}
use Rattle.cocycle_core.specs.ShadowCocycle.{ShadowCochain, shadow_value}

-- what a walk at colour x, with a region of colour w on its right-hand side, gains under a column of colour y:
-- θ(w, x, y) where it is down; where it is up, θ(w ◁ y, x ◁ y, y) is taken away
abbrev pub shadow_gain : ShadowCochain → Bool → ℕ → ℕ → ℕ → ℕ
shadow_gain t up w x y = if up then (t.modulus - shadow_value t (back t.quandle w y) (back t.quandle x y) y) % t.modulus else shadow_value t w x y

-- a walker under a column of colour y
abbrev pub shadow_stepped : ShadowCochain → Bool → ShadowWalker → ℕ → ShadowWalker
shadow_stepped t up at y = record {
  colour = passed_rightward t.quandle up at.colour y;
  region = passed_rightward t.quandle up at.region y;
  sum = (at.sum + shadow_gain t up at.region at.colour y) % t.modulus;
}

-- the region left of the left end of row r
abbrev pub region_left : Table → Diagram → List ℕ → ℕ → ℕ → ℕ
region_left t d colours outer r = fold (under t d colours) outer (filter (λ c. covers d c r) (range_with_len 0 (ends d r).low))

-- the region on the right-hand side of the left end: behind an up column, before a down one
abbrev pub region_start : Table → Diagram → List ℕ → ℕ → ℕ → ℕ
region_start t d colours outer r =
    if is_up d (ends d r).low then passed_rightward t (is_up d (ends d r).low) (region_left t d colours outer r) (slice_index colours (ends d r).low)
    else region_left t d colours outer r

-- the walker that sets out at the left end of row r, and has come to its right end
abbrev pub shadow_walked : ShadowCochain → Diagram → List ℕ → ℕ → ℕ → ShadowWalker
shadow_walked t d colours outer r =
    fold (λ (at : ShadowWalker) c. shadow_stepped t (is_up d c) at (slice_index colours c))
    (record { colour = slice_index colours (ends d r).low; region = region_start t.quandle d colours outer r; sum = 0 }) (passed d r)

-- the weight of row r
abbrev pub shadow_row_weight : ShadowCochain → Diagram → List ℕ → ℕ → ℕ → ℕ
shadow_row_weight t d colours outer r =
    if is_rightward d r then (shadow_walked t d colours outer r).sum else (t.modulus - (shadow_walked t d colours outer r).sum) % t.modulus

-- the sum of the weights of the rows, mod the modulus
abbrev pub shadow_weight_by_rows : ShadowCochain → Diagram → List ℕ → ℕ → ℕ
shadow_weight_by_rows t d colours outer = sum_by (shadow_row_weight t d colours outer) (range_with_len 0 (size d)) % t.modulus
