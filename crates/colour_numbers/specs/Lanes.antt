-- Rows read off their diagram once, and the weights of lists of colours by them; only private clauses and proofs cite this file.
use Rattle.std.specs.Prelude.{◌≡◌, ℕ, ◌+◌, ◌-◌, ◌%◌, List, map, filter, fold, slice_index, if◌then◌else◌}
use Rattle.std.specs.List.{range_with_len, sum_by}
use Rattle.grid_core.specs.Diagram.{Diagram, size}
use Rattle.grid_core.specs.Parts.{covers, ends, is_up, is_rightward}
use Rattle.quandle_core.specs.Quandle.{Table}
use Rattle.colour_rows.specs.declared.equation.Pass.{Pass}
use Rattle.colour_rows.specs.Equation.{equation}
use Rattle.colour_rows.specs.Walk.{passed_rightward}
use Rattle.colour_weights.specs.declared.shadow_walker.ShadowWalker.{ShadowWalker}
use Rattle.cocycle_core.specs.ShadowCocycle.{ShadowCochain}
use Rattle.colour_weights.specs.ShadowWalkSum.{shadow_stepped}
use Rattle.colour_numbers.specs.declared.lane.Lane.{Lane}

-- the columns from one on and before another that cover row r
abbrev pub covering : Diagram → ℕ → ℕ → ℕ → List Pass
covering d r from to = map (λ c. record { column = c; up = is_up d c }) (filter (λ c. covers d c r) (range_with_len from (to - from)))

-- row r, with the columns that cover it
abbrev pub lane : Diagram → ℕ → Lane
lane d r = record {
  row = equation d r;
  up = is_up d (ends d r).low;
  rightward = is_rightward d r;
  before = record { items = covering d r 0 (ends d r).low };
  passed = record { items = covering d r ((ends d r).low + 1) (ends d r).high };
}

-- the lanes of all rows, from the lowest upward
abbrev pub AreLanes : Diagram → List Lane → Type 0
AreLanes d lanes = lanes ≡ map (lane d) (range_with_len 0 (size d))

-- the region left of the left end, from the outer one, and the region on the right-hand side of the left end
abbrev pub lane_region_left : Table → Lane → List ℕ → ℕ → ℕ
lane_region_left t l colours outer = fold (λ w (p : Pass). passed_rightward t p.up w (slice_index colours p.column)) outer l.before.items

-- the region on the right-hand side of the left end: behind an up column, before a down one
abbrev pub lane_region_start : Table → Lane → List ℕ → ℕ → ℕ
lane_region_start t l colours outer =
    if l.up then passed_rightward t l.up (lane_region_left t l colours outer) (slice_index colours l.row.left_end) else lane_region_left t l colours outer

-- the walker that has come to the right end
abbrev pub lane_walked : ShadowCochain → Lane → List ℕ → ℕ → ShadowWalker
lane_walked t l colours outer =
    fold (λ (at : ShadowWalker) (p : Pass). shadow_stepped t p.up at (slice_index colours p.column))
    (record { colour = slice_index colours l.row.left_end; region = lane_region_start t.quandle l colours outer; sum = 0 }) l.passed.items

-- the sum of the walk, or its negative where the row runs to the left
abbrev pub lane_weight : ShadowCochain → Lane → List ℕ → ℕ → ℕ
lane_weight t l colours outer =
    if l.rightward then (lane_walked t l colours outer).sum else (t.modulus - (lane_walked t l colours outer).sum) % t.modulus

-- the sum of the weights of the lanes, mod the modulus
abbrev pub weight_by_lanes : ShadowCochain → List Lane → List ℕ → ℕ → ℕ
weight_by_lanes t lanes colours outer = sum_by (λ l. lane_weight t l colours outer) lanes % t.modulus
