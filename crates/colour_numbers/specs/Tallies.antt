-- Counts by weight of lists of colours in the making; only private clauses and proofs cite this file.
use Rattle.std.specs.Prelude.{ℕ, ◌+◌, ◌==◌, Bool, List, [], ◌∷◌, map, take, count_by, slice_index}
use Rattle.std.specs.List.{range_with_len, sum_by}
use Rattle.grid_core.specs.Diagram.{Diagram, size}
use Rattle.cocycle_core.specs.Cocycle.{Cochain}
use Rattle.colour_weights.specs.WalkSum.{weight_by_rows}
use Rattle.cocycle_core.specs.ShadowCocycle.{ShadowCochain}
use Rattle.colour_weights.specs.ShadowWalkSum as shadows

-- for each weight below m, how often lists have it, by how often each list has it
abbrev pub tally : ℕ → (ℕ → List ℕ → ℕ) → List (List ℕ) → List ℕ
tally m often level = map (λ v. sum_by (often v) level) (range_with_len 0 m)

-- counts by weight, with those of further lists
abbrev pub tallied : ℕ → (ℕ → List ℕ → ℕ) → List ℕ → List (List ℕ) → List ℕ
tallied m often counts level = map (λ v. slice_index counts v + sum_by (often v) level) (range_with_len 0 m)

-- the weight of a list, cut to the columns of the diagram, by a 2-cocycle is v
abbrev pub has_weight : Cochain → Diagram → ℕ → List ℕ → Bool
has_weight w d v f = weight_by_rows w d (take (size d) f) == v

-- how often it is, for the list alone: once or not at all
abbrev pub weighed : Cochain → Diagram → ℕ → List ℕ → ℕ
weighed w d v f = count_by (has_weight w d v) (f ∷ [])

-- by a shadow cocycle, and with an outer region of this colour, it is v
abbrev pub has_shadow_weight : ShadowCochain → Diagram → ℕ → List ℕ → ℕ → Bool
has_shadow_weight t d v f outer = shadows.shadow_weight_by_rows t d (take (size d) f) outer == v

-- with how many colours of the outer region
abbrev pub outers_of : ShadowCochain → Diagram → ℕ → List ℕ → ℕ
outers_of t d v f = count_by (has_shadow_weight t d v f) (range_with_len 0 t.quandle.order)
