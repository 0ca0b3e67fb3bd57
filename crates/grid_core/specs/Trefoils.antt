-- The two trefoils on five columns, standard examples: mirror images of one another.
use Rattle.std.specs.Prelude.{[], ◌∷◌}
use Rattle.grid_core.specs.Diagram.{Diagram}

abbrev pub right_trefoil : Diagram
right_trefoil = record { x = 4 ∷ 3 ∷ 2 ∷ 1 ∷ 0 ∷ []; o = 2 ∷ 1 ∷ 0 ∷ 4 ∷ 3 ∷ [] }

abbrev pub left_trefoil : Diagram
left_trefoil = record { x = 0 ∷ 1 ∷ 2 ∷ 3 ∷ 4 ∷ []; o = 2 ∷ 3 ∷ 4 ∷ 0 ∷ 1 ∷ [] }
