-- Linking numbers of the components of a link, summed over the crossings of one component over another.
use Rattle.std.specs.Prelude.{◌==◌, ◌&&◌, ℕ, ℤ, pos, ◌+ℤ◌, int_lt, not, List, [], ◌∷◌, map, filter, fold, if◌then◌else◌}
use Rattle.std.specs.List.{range_with_len, flat_map}
use Rattle.grid_core.specs.Diagram.{Diagram, size}
use Rattle.grid_core.specs.Crossing.{crosses, sign}
use Rattle.linking_core.specs.Component.{component_number, row_component_number, components}

-- the signs of the crossings of row r whose column is of component i
abbrev pub signs_of_row : Diagram → ℕ → ℕ → List ℤ
signs_of_row d i r = map (λ c. sign d c r) (filter (λ c. (component_number d c == i) && crosses d c r) (range_with_len 0 (size d)))

-- the signs of the crossings of component i over component j: those whose column is of i and whose row is of j
abbrev pub signs : Diagram → ℕ → ℕ → List ℤ
signs d i j = flat_map (signs_of_row d i) (filter (λ r. row_component_number d r == j) (range_with_len 0 (size d)))

-- the sum of a list
abbrev pub sum_of : List ℤ → ℤ
sum_of numbers = fold (λ s z. s +ℤ z) (pos 0) numbers

-- L(i, j), of component i over component j
abbrev pub linking_number : Diagram → ℕ → ℕ → ℤ
linking_number d i j = sum_of (signs d i j)

-- L(i, j) for all other components j, in their order
abbrev pub linking_numbers_of : Diagram → ℕ → List ℤ
linking_numbers_of d i = map (linking_number d i) (filter (λ j. not (j == i)) (components d))

-- L(i, j) for all ordered pairs of different components
abbrev pub linking_numbers : Diagram → List ℤ
linking_numbers d = flat_map (linking_numbers_of d) (components d)

-- a number put into a list in ascending order, before the first that isn't below it
abbrev pub put : List ℤ → ℤ → List ℤ
put [] z = z ∷ []
put (y ∷ ys) z = if int_lt y z then y ∷ put ys z else z ∷ y ∷ ys

-- in ascending order
abbrev pub ascending : List ℤ → List ℤ
ascending numbers = fold put [] numbers

-- the linking numbers of a link: L(i, j) for all ordered pairs of different components, in ascending order
abbrev pub linking : Diagram → List ℤ
linking d = ascending (linking_numbers d)
