-- Worked examples, by computing: the lists and numbers of colourings of small diagrams.
use Rattle.std.proofs.Common.{◌≡◌, refl, [], ◌∷◌, length, true, false}
use Rattle.grid_core.specs.Diagram.{Diagram}
use Rattle.grid_core.specs.Parts.{bottoms}
use Rattle.grid_core.specs.Trefoils.{right_trefoil, left_trefoil}
use Rattle.grid_laws.proofs.WorkedDiagrams.{unknot}
use Rattle.quandle_core.specs.Tables.{trivial, dihedral, tetrahedral}
use Rattle.colour_list.specs.Listing.{colourings}
use Rattle.colour_list.specs.Fits.{fits}

-- the counts of either trefoil
right_counts : length (colourings (trivial 2) right_trefoil) ∷ length (colourings (dihedral 3) right_trefoil) ∷ length
    (colourings tetrahedral right_trefoil) ∷ length (colourings (dihedral 5) right_trefoil) ∷ length (colourings (dihedral 7) right_trefoil) ∷ [] ≡ 2 ∷ 9 ∷ 16
    ∷ 5 ∷ 7 ∷ []
right_counts = refl

left_counts : length (colourings (trivial 2) left_trefoil) ∷ length (colourings (dihedral 3) left_trefoil) ∷ length
    (colourings tetrahedral left_trefoil) ∷ length (colourings (dihedral 5) left_trefoil) ∷ length (colourings (dihedral 7) left_trefoil) ∷ [] ≡ 2 ∷ 9 ∷ 16
    ∷ 5 ∷ 7 ∷ []
left_counts = refl

-- dihedral 3 tells the right trefoil from the unknot
nine : colourings (dihedral 3) right_trefoil ≡ (0 ∷ 0 ∷ 0 ∷ 0 ∷ 0 ∷ []) ∷ (0 ∷ 1 ∷ 2 ∷ 0 ∷ 2 ∷ []) ∷ (0 ∷ 2 ∷ 1 ∷ 0 ∷ 1 ∷ []) ∷ (1 ∷ 0 ∷ 2 ∷ 1 ∷ 2 ∷ [])
    ∷ (1 ∷ 1 ∷ 1 ∷ 1 ∷ 1 ∷ []) ∷ (1 ∷ 2 ∷ 0 ∷ 1 ∷ 0 ∷ []) ∷ (2 ∷ 0 ∷ 1 ∷ 2 ∷ 1 ∷ []) ∷ (2 ∷ 1 ∷ 0 ∷ 2 ∷ 0 ∷ []) ∷ (2 ∷ 2 ∷ 2 ∷ 2 ∷ 2 ∷ []) ∷ []
nine = refl

three : colourings (dihedral 3) unknot ≡ (0 ∷ 0 ∷ []) ∷ (1 ∷ 1 ∷ []) ∷ (2 ∷ 2 ∷ []) ∷ []
three = refl

-- four and five rings of two columns
abbrev four_rings : Diagram
four_rings = record { x = 0 ∷ 1 ∷ 2 ∷ 3 ∷ 4 ∷ 5 ∷ 6 ∷ 7 ∷ []; o = 1 ∷ 0 ∷ 3 ∷ 2 ∷ 5 ∷ 4 ∷ 7 ∷ 6 ∷ [] }

abbrev five_rings : Diagram
five_rings = record { x = 0 ∷ 1 ∷ 2 ∷ 3 ∷ 4 ∷ 5 ∷ 6 ∷ 7 ∷ 8 ∷ 9 ∷ []; o = 1 ∷ 0 ∷ 3 ∷ 2 ∷ 5 ∷ 4 ∷ 7 ∷ 6 ∷ 9 ∷ 8 ∷ [] }

four : bottoms four_rings ≡ 4
four = refl

five : bottoms five_rings ≡ 5
five = refl

-- 16 ^ 4 is the limit itself
four_fit : fits (trivial 16) four_rings ≡ true
four_fit = refl

five_do_not : fits (trivial 16) five_rings ≡ false
five_do_not = refl

-- the figure eight and the right trefoil as closures of the braids 1 -2 1 -2 and 1 1 1: dihedral 3 tells them apart
abbrev figure_eight : Diagram
figure_eight = record { x = 5 ∷ 3 ∷ 0 ∷ 1 ∷ 2 ∷ 4 ∷ 6 ∷ 7 ∷ 8 ∷ 9 ∷ []; o = 9 ∷ 6 ∷ 4 ∷ 3 ∷ 5 ∷ 8 ∷ 7 ∷ 2 ∷ 1 ∷ 0 ∷ [] }

abbrev braid_trefoil : Diagram
braid_trefoil = record { x = 4 ∷ 3 ∷ 2 ∷ 0 ∷ 1 ∷ 5 ∷ 6 ∷ []; o = 6 ∷ 5 ∷ 4 ∷ 3 ∷ 2 ∷ 1 ∷ 0 ∷ [] }

figure_eight_list : colourings (dihedral 3) figure_eight ≡ (0 ∷ 0 ∷ 0 ∷ 0 ∷ 0 ∷ 0 ∷ 0 ∷ 0 ∷ 0 ∷ 0 ∷ []) ∷ (1 ∷ 1 ∷ 1 ∷ 1 ∷ 1 ∷ 1 ∷ 1 ∷ 1 ∷ 1 ∷ 1 ∷ [])
    ∷ (2 ∷ 2 ∷ 2 ∷ 2 ∷ 2 ∷ 2 ∷ 2 ∷ 2 ∷ 2 ∷ 2 ∷ []) ∷ []
figure_eight_list = refl

braid_trefoil_list : colourings (dihedral 3) braid_trefoil ≡ (0 ∷ 0 ∷ 0 ∷ 0 ∷ 0 ∷ 0 ∷ 0 ∷ []) ∷ (0 ∷ 1 ∷ 2 ∷ 0 ∷ 1 ∷ 1 ∷ 0 ∷ [])
    ∷ (0 ∷ 2 ∷ 1 ∷ 0 ∷ 2 ∷ 2 ∷ 0 ∷ []) ∷ (1 ∷ 0 ∷ 2 ∷ 1 ∷ 0 ∷ 0 ∷ 1 ∷ []) ∷ (1 ∷ 1 ∷ 1 ∷ 1 ∷ 1 ∷ 1 ∷ 1 ∷ []) ∷ (1 ∷ 2 ∷ 0 ∷ 1 ∷ 2 ∷ 2 ∷ 1 ∷ [])
    ∷ (2 ∷ 0 ∷ 1 ∷ 2 ∷ 0 ∷ 0 ∷ 2 ∷ []) ∷ (2 ∷ 1 ∷ 0 ∷ 2 ∷ 1 ∷ 1 ∷ 2 ∷ []) ∷ (2 ∷ 2 ∷ 2 ∷ 2 ∷ 2 ∷ 2 ∷ 2 ∷ []) ∷ []
braid_trefoil_list = refl
