-- Worked examples, by computing: the two trefoils.
use Rattle.std.proofs.Common.{◌≡◌, ◌∷◌, [], refl, true, false}
use Rattle.grid_core.specs.Trefoils.{right_trefoil, left_trefoil}
use Rattle.quandle_core.specs.Tables.{dihedral, tetrahedral}
use Rattle.colour_rows.specs.Walk.{passed, walk}
use Rattle.colour_rows.specs.Colouring.{is_colouring}

-- row 2 of the right trefoil runs from column 0 to column 2, under column 1, which is down: 1 ▷ 0 = 2
under_one : passed right_trefoil 2 ≡ 1 ∷ []
under_one = refl

turned_over : walk tetrahedral right_trefoil (1 ∷ 0 ∷ 0 ∷ 0 ∷ 0 ∷ []) 2 ≡ 2
turned_over = refl

-- row 2 of the left trefoil runs from column 0 to column 2, under column 1, which is up: 2 ◁ 0 = 1
under_one_also : passed left_trefoil 2 ≡ 1 ∷ []
under_one_also = refl

turned_back : walk tetrahedral left_trefoil (2 ∷ 0 ∷ 0 ∷ 0 ∷ 0 ∷ []) 2 ≡ 1
turned_back = refl

-- the lowest row passes under nothing
under_none : passed right_trefoil 0 ≡ []
under_none = refl

three_colours : is_colouring (dihedral 3) right_trefoil (0 ∷ 1 ∷ 2 ∷ 0 ∷ 2 ∷ []) ≡ true
three_colours = refl

by_rotations : is_colouring tetrahedral right_trefoil (0 ∷ 1 ∷ 3 ∷ 0 ∷ 3 ∷ []) ≡ true
by_rotations = refl

one_end_apart : is_colouring tetrahedral right_trefoil (0 ∷ 1 ∷ 3 ∷ 0 ∷ 2 ∷ []) ≡ false
one_end_apart = refl

too_few : is_colouring (dihedral 3) right_trefoil (0 ∷ 0 ∷ 0 ∷ 0 ∷ []) ≡ false
too_few = refl

no_such_colour : is_colouring (dihedral 3) right_trefoil (3 ∷ 3 ∷ 3 ∷ 3 ∷ 3 ∷ []) ≡ false
no_such_colour = refl
