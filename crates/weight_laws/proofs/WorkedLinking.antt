-- Worked examples, by computing: closures of braids of two strands, and the trefoils.
use Rattle.std.proofs.Common.{◌≡◌, ◌∷◌, [], refl, pos, negsuc}
use Rattle.grid_core.specs.Diagram.{Diagram}
use Rattle.linking_core.specs.Component.{components, component_numbers_below}
use Rattle.grid_core.specs.Crossing.{sign}
use Rattle.grid_core.specs.Trefoils.{right_trefoil, left_trefoil}
use Rattle.linking_core.specs.Linking.{signs, linking}

-- the closure of the braid 2 -1 -1
abbrev pub negative_link : Diagram
negative_link = record { x = 0 ∷ 1 ∷ 2 ∷ 3 ∷ 4 ∷ 5 ∷ []; o = 2 ∷ 3 ∷ 5 ∷ 4 ∷ 1 ∷ 0 ∷ [] }

-- the closure of the braid 2 1 1
abbrev pub hopf_link : Diagram
hopf_link = record { x = 3 ∷ 2 ∷ 0 ∷ 1 ∷ 4 ∷ 5 ∷ []; o = 5 ∷ 4 ∷ 3 ∷ 2 ∷ 1 ∷ 0 ∷ [] }

-- the closure of the braid 2
abbrev pub two_unknots : Diagram
two_unknots = record { x = 0 ∷ 1 ∷ 2 ∷ 3 ∷ []; o = 3 ∷ 2 ∷ 1 ∷ 0 ∷ [] }

two_components : components negative_link ≡ 0 ∷ 1 ∷ []
two_components = refl

by_column : component_numbers_below negative_link 6 ≡ 0 ∷ 1 ∷ 0 ∷ 1 ∷ 1 ∷ 0 ∷ []
by_column = refl

negative : linking negative_link ≡ negsuc 0 ∷ negsuc 0 ∷ []
negative = refl

one_component : components right_trefoil ≡ 0 ∷ []
one_component = refl

none_right : linking right_trefoil ≡ []
none_right = refl

none_left : linking left_trefoil ≡ []
none_left = refl

positive : linking hopf_link ≡ pos 1 ∷ pos 1 ∷ []
positive = refl

apart : linking two_unknots ≡ pos 0 ∷ pos 0 ∷ []
apart = refl

-- the closure of the braid 3 1 1 -2 -2: a chain of three, linked once each way
abbrev pub chain_of_three : Diagram
chain_of_three = record {
  x = 4 ∷ 3 ∷ 0 ∷ 1 ∷ 2 ∷ 5 ∷ 6 ∷ 7 ∷ 8 ∷ 9 ∷ [];
  o = 9 ∷ 5 ∷ 4 ∷ 3 ∷ 6 ∷ 8 ∷ 7 ∷ 2 ∷ 1 ∷ 0 ∷ [];
}

both_ways : linking chain_of_three ≡ negsuc 0 ∷ negsuc 0 ∷ pos 0 ∷ pos 0 ∷ pos 1 ∷ pos 1 ∷ []
both_ways = refl

-- column 1 of the right trefoil runs down over row 2, which runs to the right
positive_crossing : sign right_trefoil 1 2 ≡ pos 1
positive_crossing = refl

-- and of the left trefoil up over row 2, which runs to the right
negative_crossing : sign left_trefoil 1 2 ≡ negsuc 0
negative_crossing = refl

-- an unknot through columns 1 and 2 that lies over another one through columns 0 and 3: L(1, 0) has all four crossings, L(0, 1) none
abbrev pub laid_over : Diagram
laid_over = record { x = 1 ∷ 0 ∷ 3 ∷ 2 ∷ []; o = 2 ∷ 3 ∷ 0 ∷ 1 ∷ [] }

the_inner_lies_over_the_outer : signs laid_over 1 0 ≡ pos 1 ∷ negsuc 0 ∷ negsuc 0 ∷ pos 1 ∷ []
the_inner_lies_over_the_outer = refl

the_outer_lies_over_nothing : signs laid_over 0 1 ≡ []
the_outer_lies_over_nothing = refl

laid_over_is_not_linked : linking laid_over ≡ pos 0 ∷ pos 0 ∷ []
laid_over_is_not_linked = refl

-- of the closure of the braid 2 1 1 columns 3 and 4 share row 1, and slide
abbrev pub slid_link : Diagram
slid_link = record { x = 3 ∷ 2 ∷ 0 ∷ 4 ∷ 1 ∷ 5 ∷ []; o = 5 ∷ 4 ∷ 3 ∷ 1 ∷ 2 ∷ 0 ∷ [] }

still_positive : linking slid_link ≡ pos 1 ∷ pos 1 ∷ []
still_positive = refl
