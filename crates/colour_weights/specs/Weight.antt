-- The weight of a colouring by a 2-cocycle: the sum, over all crossings, of the sign times φ(x, y) (Carter and others 2003).
use Rattle.std.specs.Prelude.{ℕ, not, List, filter, slice_index}
use Rattle.std.specs.List.{range_with_len, sum_by}
use Rattle.grid_core.specs.Diagram.{Diagram, size}
use Rattle.grid_core.specs.Crossing.{is_positive}
use Rattle.colour_rows.specs.Walk.{passed}
use Rattle.colour_weights.specs.ShadowWeight.{colour_beside, difference}
use Rattle.cocycle_core.specs.Cocycle.{Cochain, value}

-- φ(x, y) of the crossing of column c over row r: y is the colour of the column, x that of the strand under it on the column's right-hand side
abbrev pub crossing_value : Cochain → Diagram → List ℕ → ℕ → ℕ → ℕ
crossing_value w d colours c r = value w (colour_beside w.quandle d colours c r) (slice_index colours c)

-- the sum over the positive crossings, and over the negative ones
abbrev pub positive_sum : Cochain → Diagram → List ℕ → ℕ
positive_sum w d colours = sum_by (λ r. sum_by (λ c. crossing_value w d colours c r) (filter (λ c. is_positive d c r) (passed d r))) (range_with_len 0 (size d))

-- the sum over the negative crossings
abbrev pub negative_sum : Cochain → Diagram → List ℕ → ℕ
negative_sum w d colours = sum_by (λ r. sum_by (λ c. crossing_value w d colours c r) (filter (λ c. not (is_positive d c r)) (passed d r)))
    (range_with_len 0 (size d))

-- the one sum less the other, mod the modulus
abbrev pub weight : Cochain → Diagram → List ℕ → ℕ
weight w d colours = difference w.modulus (positive_sum w d colours) (negative_sum w d colours)
