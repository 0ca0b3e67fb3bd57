-- The signed intersections of a component with the lines of the page: 1 where it crosses the line upward or to the right, and -1 where downward or to the left.
use Rattle.std.specs.Prelude.{◌==◌, ◌&&◌, ℕ, ℤ, List, map, filter}
use Rattle.std.specs.List.{range_with_len}
use Rattle.grid_core.specs.Diagram.{Diagram, size}
use Rattle.grid_core.specs.Span.{lies_within, crosses_height}
use Rattle.grid_core.specs.Parts.{column_span, ends, is_up, is_rightward}
use Rattle.grid_core.specs.Crossing.{unit}
use Rattle.linking_core.specs.Component.{component_number, row_component_number}

-- of component i with the height between rows h - 1 and h: one for each column that covers the height
abbrev pub intersections_with_height : Diagram → ℕ → ℕ → List ℤ
intersections_with_height d i h =
    map (λ c. unit (is_up d c)) (filter (λ c. (component_number d c == i) && crosses_height (column_span d c) h) (range_with_len 0 (size d)))

-- of component j with the vertical line through column v: one for each row between whose ends it lies
abbrev pub intersections_with_column : Diagram → ℕ → ℕ → List ℤ
intersections_with_column d j v =
    map (λ r. unit (is_rightward d r)) (filter (λ r. (row_component_number d r == j) && lies_within (ends d r) v) (range_with_len 0 (size d)))

-- of component j with the vertical line between columns v - 1 and v
abbrev pub intersections_between_columns : Diagram → ℕ → ℕ → List ℤ
intersections_between_columns d j v =
    map (λ r. unit (is_rightward d r)) (filter (λ r. (row_component_number d r == j) && crosses_height (ends d r) v) (range_with_len 0 (size d)))
