-- How many colourings, each with a colour of the outer region, have each weight.
use Rattle.std.specs.Prelude.{ℕ, ◌==◌, List, map, count_by}
use Rattle.std.specs.List.{range_with_len, sum_by}
use Rattle.grid_core.specs.Diagram.{Diagram}
use Rattle.colour_list.specs.Listing.{colourings}
use Rattle.cocycle_core.specs.ShadowCocycle.{ShadowCochain}
use Rattle.colour_weights.specs.ShadowWeight.{shadow_weight}

-- the number of colourings of weight v with the outer region of this colour
abbrev pub shadows_of : ShadowCochain → Diagram → ℕ → ℕ → ℕ
shadows_of t d v outer = count_by (λ c. shadow_weight t d c outer == v) (colourings t.quandle d)

-- for each v from 0 to k - 1, the number of pairs of a colouring and a colour of the outer region that have weight v
abbrev pub shadow_weights : ShadowCochain → Diagram → List ℕ
shadow_weights t d = map (λ v. sum_by (shadows_of t d v) (range_with_len 0 t.quandle.order)) (range_with_len 0 t.modulus)
