-- The complete list of colourings of a diagram by a quandle.
use Rattle.std.specs.Prelude.{ℕ, List, map, filter, Bool, nat_eq}
use Rattle.std.specs.List.{count_by}
use Rattle.std.specs.Cmp.Lexicographic.{pointwise}
use Rattle.arrayvec.specs.ArrayVec.{ArrayVec}
use Rattle.grid_core.specs.Diagram.{Diagram, size}
use Rattle.quandle_core.specs.Quandle.{Table}
pub use Rattle.quandle_core.specs.Colours.{all_lists}
use Rattle.colour_rows.specs.Colouring.{is_colouring}

-- all colourings, in lexicographic order
abbrev pub colourings : Table → Diagram → List (List ℕ)
colourings t d = filter (is_colouring t d) (all_lists t.order (size d))

-- the items of each colouring
abbrev pub lists_of : List (ArrayVec ℕ) → List (List ℕ)
lists_of list = map (λ (c : ArrayVec ℕ). c.items) list

-- the two lists have the same numbers
abbrev pub is_same : List ℕ → List ℕ → Bool
is_same = pointwise nat_eq

-- how often f stands in the list
abbrev pub times : List ℕ → List (List ℕ) → ℕ
times f xs = count_by (is_same f) xs
