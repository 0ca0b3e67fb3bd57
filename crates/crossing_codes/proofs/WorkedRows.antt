-- Worked examples, by computing: the two trefoils, the figure eight, the unknot of two columns, two linked unknots, and an unknot beside one that
-- passes over it.
use Rattle.std.proofs.Common.{◌≡◌, ◌∷◌, [], refl, true, false, map}
use Rattle.std.specs.Prelude.{codes}
use Rattle.std.specs.Fmt.{digits}
use Rattle.grid_core.specs.Diagram.{Diagram}
use Rattle.grid_core.specs.Trefoils.{right_trefoil, left_trefoil}
use Rattle.grid_laws.proofs.WorkedDiagrams.{unknot}
use Rattle.quandle_core.specs.Tables.{dihedral, tetrahedral}
use Rattle.crossing_codes.specs.Components.{component, component_starts}
use Rattle.crossing_codes.specs.StrandPlaces.{on_column, on_row, place_after, met_after, at_cross}
use Rattle.crossing_codes.specs.Edges.{edges_after}
use Rattle.crossing_codes.specs.Code.{code}
use Rattle.crossing_codes.specs.CodeColouring.{is_code_colouring}
use Rattle.crossing_codes.specs.EdgeColouring.{edge_colours, place_where_column_begins}
use Rattle.crossing_codes.specs.Printed.{pd_text, gauss_text}

abbrev pub figure_eight : Diagram
figure_eight = record { x = 5 ∷ 3 ∷ 0 ∷ 1 ∷ 2 ∷ 4 ∷ 6 ∷ 7 ∷ 8 ∷ 9 ∷ []; o = 9 ∷ 6 ∷ 4 ∷ 3 ∷ 5 ∷ 8 ∷ 7 ∷ 2 ∷ 1 ∷ 0 ∷ [] }

abbrev pub linked : Diagram
linked = record { x = 0 ∷ 1 ∷ 2 ∷ 3 ∷ []; o = 2 ∷ 3 ∷ 0 ∷ 1 ∷ [] }

abbrev pub above : Diagram
above = record { x = 1 ∷ 0 ∷ 3 ∷ 2 ∷ []; o = 2 ∷ 3 ∷ 0 ∷ 1 ∷ [] }

-- the strand runs through all columns of the trefoil, every second one
trefoil_round : component right_trefoil 0 ≡ 0 ∷ 2 ∷ 4 ∷ 1 ∷ 3 ∷ []
trefoil_round = refl

-- from the X of its column 0 down two rows, into the row of the O, and under column 1
trefoil_first : met_after right_trefoil 4 (at_cross right_trefoil 0) ≡ on_row 1 2 ∷ []
trefoil_first = refl

none_before : met_after right_trefoil 3 (at_cross right_trefoil 0) ≡ []
none_before = refl

-- once round the unknot, from cell to cell
unknot_places : map (λ k. place_after unknot k (at_cross unknot 0)) (1 ∷ 2 ∷ 3 ∷ 4 ∷ 5 ∷ 6 ∷ 7 ∷ 8 ∷ [])
    ≡ on_column 0 1 ∷ on_row 0 1 ∷ on_row 1 1 ∷ on_column 1 1 ∷ on_column 1 0 ∷ on_row 1 0 ∷ on_row 0 0 ∷ on_column 0 0 ∷ []
unknot_places = refl

one_component : component_starts right_trefoil ≡ 0 ∷ []
one_component = refl

trefoil_leads : edges_after right_trefoil ≡ 2 ∷ 3 ∷ 4 ∷ 5 ∷ 6 ∷ 1 ∷ []
trefoil_leads = refl

trefoil_code : pd_text (code right_trefoil) ≡ codes "crossings 3\nX[5,3,6,2]\nX[1,5,2,4]\nX[3,1,4,6]\nloops 0\n"
unfolding digits
trefoil_code = refl

trefoil_gauss : gauss_text right_trefoil ≡ codes "gauss U2+ O1+ U3+ O2+ U1+ O3+\n"
unfolding digits
trefoil_gauss = refl

left_code : pd_text (code left_trefoil) ≡ codes "crossings 3\nX[3,6,4,1]\nX[1,4,2,5]\nX[5,2,6,3]\nloops 0\n"
unfolding digits
left_code = refl

left_signs : gauss_text left_trefoil ≡ codes "gauss U2- O3- U1- O2- U3- O1-\n"
unfolding digits
left_signs = refl

-- the figure eight, whose code is the published one in another order
figure_eight_code : pd_text (code figure_eight) ≡ codes "crossings 4\nX[4,2,5,1]\nX[2,7,3,8]\nX[8,6,1,5]\nX[6,3,7,4]\nloops 0\n"
unfolding digits
figure_eight_code = refl

-- two linked unknots
linked_code : pd_text (code linked) ≡ codes "crossings 2\nX[4,2,3,1]\nX[1,3,2,4]\nloops 0\n"
unfolding digits
linked_code = refl

linked_gauss : gauss_text linked ≡ codes "gauss U2- O1-\ngauss O2- U1-\n"
unfolding digits
linked_gauss = refl

-- an unknot, and one that passes over it everywhere
above_code : pd_text (code above) ≡ codes "crossings 4\nX[4,6,1,5]\nX[3,8,4,5]\nX[1,6,2,7]\nX[2,8,3,7]\nloops 0\n"
unfolding digits
above_code = refl

above_gauss : gauss_text above ≡ codes "gauss U3- U4+ U2- U1+\ngauss O1+ O3- O4+ O2-\n"
unfolding digits
above_gauss = refl

unknot_code : pd_text (code unknot) ≡ codes "crossings 0\nloops 1\n"
unfolding digits
unknot_code = refl

unknot_gauss : gauss_text unknot ≡ []
unknot_gauss = refl

trefoil_colours : edge_colours (dihedral 3) right_trefoil (0 ∷ 1 ∷ 2 ∷ 0 ∷ 2 ∷ []) ≡ 0 ∷ 2 ∷ 2 ∷ 1 ∷ 1 ∷ 0 ∷ []
trefoil_colours = refl

they_agree : is_code_colouring (dihedral 3) (code right_trefoil) (0 ∷ 2 ∷ 2 ∷ 1 ∷ 1 ∷ 0 ∷ []) ≡ true
they_agree = refl

one_apart : is_code_colouring (dihedral 3) (code right_trefoil) (0 ∷ 2 ∷ 2 ∷ 1 ∷ 1 ∷ 1 ∷ []) ≡ false
one_apart = refl

by_rotations : is_code_colouring tetrahedral (code right_trefoil) (edge_colours tetrahedral right_trefoil (0 ∷ 1 ∷ 3 ∷ 0 ∷ 3 ∷ [])) ≡ true
by_rotations = refl

-- the columns of the trefoil begin on these edges, counted from 0
where_columns_begin : map (place_where_column_begins right_trefoil) (0 ∷ 1 ∷ 2 ∷ 3 ∷ 4 ∷ []) ≡ 0 ∷ 3 ∷ 1 ∷ 5 ∷ 2 ∷ []
where_columns_begin = refl
