-- Worked rows of weights, by computing.
use Rattle.std.proofs.Common.{◌≡◌, ℕ, refl, [], ◌∷◌, Bool, true, false, List, None, Some, map}
use Rattle.std.specs.Prelude.{◌==◌}
use Rattle.std.specs.List.{list_all, flat_map, range_with_len}
use Rattle.grid_core.specs.Diagram.{Diagram, size}
use Rattle.grid_core.specs.Crossing.{is_positive}
use Rattle.grid_core.specs.Trefoils.{right_trefoil, left_trefoil}
use Rattle.grid_moves.specs.declared.step.Move.TheVariants.{ShiftRows, SlideColumns, SlideRows}
use Rattle.quandle_core.specs.Tables.{dihedral, tetrahedral, trivial}
use Rattle.colour_rows.specs.Walk.{passed}
use Rattle.colour_list.specs.Listing.{colourings}
use Rattle.colour_laws.specs.Carried.{carried, after_row_shift}
use Rattle.quandle_laws.proofs.WorkedCocycles.{tetrahedral_cocycle, of_trivial, of_dihedral}
use Rattle.colour_weights.specs.Weight.{crossing_value, weight}
use Rattle.colour_weights.specs.ShadowWeight.{colour_beside}
use Rattle.colour_weights.specs.WalkSum.{weight_by_rows}
use Rattle.colour_weights.specs.Weights.{weights}

-- the closure of the braid of two strands without letters
abbrev two_loops : Diagram
two_loops = record { x = 0 ∷ 1 ∷ 2 ∷ 3 ∷ []; o = 3 ∷ 2 ∷ 1 ∷ 0 ∷ [] }

-- the three crossings of the right trefoil are positive, those of the left one negative
abbrev signs : Diagram → List Bool
signs d = flat_map (λ r. map (λ c. is_positive d c r) (passed d r)) (range_with_len 0 (size d))

right_signs : signs right_trefoil ≡ true ∷ true ∷ true ∷ []
right_signs = refl

left_signs : signs left_trefoil ≡ false ∷ false ∷ false ∷ []
left_signs = refl

right_weights : weights tetrahedral_cocycle right_trefoil ≡ 4 ∷ 12 ∷ []
right_weights = refl

left_weights : weights tetrahedral_cocycle left_trefoil ≡ 4 ∷ 12 ∷ []
left_weights = refl

loop_weights : weights tetrahedral_cocycle two_loops ≡ 16 ∷ 0 ∷ []
loop_weights = refl

-- the sum over crossings is the sum over rows
by_rows : list_all (λ c. weight tetrahedral_cocycle right_trefoil c == weight_by_rows tetrahedral_cocycle right_trefoil c)
    (colourings tetrahedral right_trefoil) ≡ true
by_rows = refl

-- a closed braid of two strands and two positive letters: two crossings
abbrev hopf : Diagram
hopf = record { x = 3 ∷ 2 ∷ 0 ∷ 1 ∷ 4 ∷ 5 ∷ []; o = 5 ∷ 4 ∷ 3 ∷ 2 ∷ 1 ∷ 0 ∷ [] }

-- each component passes once under the other: φ(0, 1) + φ(1, 0) where they have different colours
hopf_weights : weights of_trivial hopf ≡ 2 ∷ 0 ∷ 0 ∷ 2 ∷ 0 ∷ 0 ∷ 0 ∷ []
hopf_weights = refl

-- the mirror image has the negative weights
abbrev left_hopf : Diagram
left_hopf = record { x = 0 ∷ 1 ∷ 2 ∷ 3 ∷ 4 ∷ 5 ∷ []; o = 2 ∷ 3 ∷ 5 ∷ 4 ∷ 1 ∷ 0 ∷ [] }

left_hopf_weights : weights of_trivial left_hopf ≡ 2 ∷ 0 ∷ 0 ∷ 0 ∷ 2 ∷ 0 ∷ 0 ∷ []
left_hopf_weights = refl

left_by_rows : list_all (λ c. weight of_trivial left_hopf c == weight_by_rows of_trivial left_hopf c) (colourings (trivial 2) left_hopf) ≡ true
left_by_rows = refl

-- carried colourings have the weights that they had
kept_by_rows : list_all (λ c. weight tetrahedral_cocycle (after_row_shift 1 right_trefoil) (carried tetrahedral right_trefoil (ShiftRows 1) c)
    == weight tetrahedral_cocycle right_trefoil c) (colourings tetrahedral right_trefoil) ≡ true
kept_by_rows = refl

-- row 1 comes in colour 1 to column 2, which is down and has colour 2, and goes on in colour 0. The column's right-hand side is the row's left: φ(1, 2)
under_down : crossing_value of_dihedral right_trefoil (0 ∷ 1 ∷ 2 ∷ 0 ∷ 2 ∷ []) 2 1 ≡ 1
under_down = refl

-- row 3 comes in colour 1 to column 3, which is up and has colour 0, and goes on in colour 2. The column's right-hand side is the row's right: φ(2, 0)
under_up : crossing_value of_dihedral right_trefoil (0 ∷ 1 ∷ 2 ∷ 0 ∷ 2 ∷ []) 3 3 ≡ 2
under_up = refl

-- the closure of a braid of three positive crossings on two strands: columns 4 and 5 share row 1
abbrev closed : Diagram
closed = record { x = 4 ∷ 3 ∷ 2 ∷ 0 ∷ 1 ∷ 5 ∷ 6 ∷ []; o = 6 ∷ 5 ∷ 4 ∷ 3 ∷ 2 ∷ 1 ∷ 0 ∷ [] }

abbrev closed_colours : List ℕ
closed_colours = 0 ∷ 1 ∷ 2 ∷ 0 ∷ 1 ∷ 1 ∷ 0 ∷ []

-- they slide, and rows 1 and 2 share column 5, with both other ends left of it
abbrev columns_slid : Diagram
columns_slid = record { x = 4 ∷ 3 ∷ 2 ∷ 0 ∷ 5 ∷ 1 ∷ 6 ∷ []; o = 6 ∷ 5 ∷ 4 ∷ 3 ∷ 1 ∷ 2 ∷ 0 ∷ [] }

-- these slide too
abbrev rows_slid : Diagram
rows_slid = record { x = 4 ∷ 3 ∷ 1 ∷ 0 ∷ 5 ∷ 2 ∷ 6 ∷ []; o = 6 ∷ 5 ∷ 4 ∷ 3 ∷ 2 ∷ 1 ∷ 0 ∷ [] }

-- the first slide makes one crossing more, of colour 1 under colour 1, and the second one undoes it
closed_signs : signs closed ≡ true ∷ true ∷ true ∷ []
closed_signs = refl

columns_slid_signs : signs columns_slid ≡ true ∷ false ∷ true ∷ true ∷ []
columns_slid_signs = refl

columns_slid_crossing : colour_beside tetrahedral columns_slid closed_colours 4 2 ≡ 1
columns_slid_crossing = refl

rows_slid_signs : signs rows_slid ≡ true ∷ true ∷ true ∷ []
rows_slid_signs = refl

-- the weight stays 1
closed_weight : weight tetrahedral_cocycle closed closed_colours ≡ 1
closed_weight = refl

columns_slid_weight : weight tetrahedral_cocycle columns_slid (carried tetrahedral closed (SlideColumns 4) closed_colours) ≡ 1
columns_slid_weight = refl

rows_slid_weight : weight tetrahedral_cocycle rows_slid (carried tetrahedral columns_slid (SlideRows 1) closed_colours) ≡ 1
rows_slid_weight = refl
