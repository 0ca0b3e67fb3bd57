-- Worked examples, by computing: a trefoil, two linked unknots, kinks, a code on a torus, two parts, a loop.
use Rattle.std.proofs.Common.{◌≡◌, ◌∷◌, [], ℕ, List, Bool, Some, None, true, false, map, refl}
use Rattle.grid_core.specs.Trefoils.{right_trefoil, left_trefoil}
use Rattle.crossing_codes.specs.declared.crossing.Code.{Code}
use Rattle.crossing_codes.specs.declared.crossing.Crossing.{Crossing}
use Rattle.crossing_codes.specs.Code.{code}
use Rattle.code_rows.specs.declared.code_fault.CodeFault.TheVariants.{Empty, Count, Range, Edge, Plane}
use Rattle.code_rows.specs.CodeMap.{twins, around_face, faces, parts}
use Rattle.code_rows.specs.CodeFault.{first_code_fault}

abbrev pub X : ℕ → ℕ → ℕ → ℕ → Bool → Crossing
X i j k l positive = record { first = i; second = j; third = k; fourth = l; positive = positive }

abbrev pub of : List Crossing → ℕ → ℕ → Code
of xs edges loops = record { crossings = xs; edges = edges; loops = loops }

-- faces, and then crossings with twice the parts: the trefoil has three bigons and two triangles
trefoil_faces : faces (twins (code right_trefoil).crossings) ≡ 5
trefoil_faces = refl

no_faults : map first_code_fault (code right_trefoil ∷ code left_trefoil ∷ []) ≡ None ∷ None ∷ []
no_faults = refl

-- trefoil, figure eight and two linked unknots of published tables
table_trefoil : first_code_fault (of (X 1 5 2 4 true ∷ X 3 1 4 6 true ∷ X 5 3 6 2 true ∷ []) 6 0) ≡ None
table_trefoil = refl

table_eight : first_code_fault (of (X 4 2 5 1 true ∷ X 8 6 1 5 true ∷ X 6 3 7 4 false ∷ X 2 7 3 8 false ∷ []) 8 0) ≡ None
table_eight = refl

abbrev pub linked : List Crossing
linked = X 4 1 3 2 false ∷ X 2 3 1 4 false ∷ []

linked_faces : faces (twins linked) ≡ 4
linked_faces = refl

table_linked : first_code_fault (of linked 4 0) ≡ None
table_linked = refl

-- the inside of a kink has one dart, with it on the left
abbrev pub kink : List Crossing
kink = X 1 1 2 2 true ∷ []

kink_twins : twins kink ≡ 1 ∷ 0 ∷ 3 ∷ 2 ∷ []
kink_twins = refl

inside_kink : around_face (twins kink) 1 0 ≡ 0
inside_kink = refl

outside_kink : around_face (twins kink) 1 1 ∷ around_face (twins kink) 2 1 ∷ [] ≡ 3 ∷ 1 ∷ []
outside_kink = refl

kink_fits : first_code_fault (of kink 2 0) ≡ None
kink_fits = refl

-- with the other sign its strand over runs against the edges
kink_turned : first_code_fault (of (X 1 1 2 2 false ∷ []) 2 0) ≡ Some (Edge 1)
kink_turned = refl

-- two crossings on a torus: two faces, where four are due
abbrev pub torus : List Crossing
torus = X 3 2 4 1 true ∷ X 2 1 3 4 true ∷ []

torus_faces : faces (twins torus) ≡ 2
torus_faces = refl

torus_fault : first_code_fault (of torus 4 0) ≡ Some Plane
torus_fault = refl

-- two kinks apart: two parts, and three faces to each, its own outer one among them
abbrev pub two_kinks : List Crossing
two_kinks = X 1 1 2 2 true ∷ X 3 3 4 4 true ∷ []

two_parts : parts (twins two_kinks) 2 ≡ 2
two_parts = refl

two_parts_faces : faces (twins two_kinks) ≡ 6
two_parts_faces = refl

two_parts_fit : first_code_fault (of two_kinks 4 0) ≡ None
two_parts_fit = refl

-- a plane part doesn't make up for one on a torus
torus_and_kink : first_code_fault (of (X 3 2 4 1 true ∷ X 2 1 3 4 true ∷ X 5 5 6 6 true ∷ []) 6 0) ≡ Some Plane
torus_and_kink = refl

a_loop : first_code_fault (of [] 0 1) ≡ None
a_loop = refl

nothing : first_code_fault (of [] 0 0) ≡ Some Empty
nothing = refl

three_ends : first_code_fault (of (X 1 1 1 2 true ∷ []) 2 0) ≡ Some (Edge 1)
three_ends = refl

other_edges : first_code_fault (of kink 4 0) ≡ Some Count
other_edges = refl

no_such_edge : first_code_fault (of (X 1 1 2 3 true ∷ []) 2 0) ≡ Some (Range 0)
no_such_edge = refl
