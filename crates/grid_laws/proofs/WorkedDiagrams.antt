-- Worked examples: the unknot of two columns, the two trefoils, the closure of a braid, a Hopf link, and lists that are no grid.
use Rattle.std.proofs.Common.{◌≡◌, ◌||◌, ◌∷◌, [], true, false, refl, Some, None, ℕ, ℤ, List, pos, negsuc, map}
use Rattle.std.specs.Prelude.{filter, flat_map}
use Rattle.std.specs.List.{range_with_len}
use Rattle.grid_core.specs.declared.grid.TheConstants.{MAX_SIZE}
use Rattle.grid_core.specs.declared.fault.GridFault.TheVariants.{Size, Length, Range, Repeat, Same}
use Rattle.grid_core.specs.Diagram.{Diagram, size}
use Rattle.grid_core.specs.Trefoils.{right_trefoil, left_trefoil}
use Rattle.grid_core.specs.Parts.{bottoms, covers, is_up, is_rightward, ends, column_span}
use Rattle.grid_core.specs.Crossing.{crosses, sign, is_positive}
use Rattle.grid_core.specs.Fault.{first_grid_fault}

abbrev pub unknot : Diagram
unknot = record { x = 0 ∷ 1 ∷ []; o = 1 ∷ 0 ∷ [] }

-- the closure of three positive letters on two strands
abbrev pub closure : Diagram
closure = record { x = 4 ∷ 3 ∷ 2 ∷ 0 ∷ 1 ∷ 5 ∷ 6 ∷ []; o = 6 ∷ 5 ∷ 4 ∷ 3 ∷ 2 ∷ 1 ∷ 0 ∷ [] }

-- the one place that says the largest size by its number, beside the constant
largest_size : MAX_SIZE ≡ 48
largest_size = refl

bottoms_of_trefoil : bottoms right_trefoil ≡ 2
bottoms_of_trefoil = refl

bottoms_of_unknot : bottoms unknot ≡ 1
bottoms_of_unknot = refl

ends_of_top : ends right_trefoil 4 ≡ record { low = 0; high = 3 }
ends_of_top = refl

span_of_last : column_span right_trefoil 4 ≡ record { low = 0; high = 3 }
span_of_last = refl

trefoil_is_fine : first_grid_fault right_trefoil.x right_trefoil.o ≡ None
trefoil_is_fine = refl

one_column : first_grid_fault (0 ∷ []) (0 ∷ []) ≡ Some Size
one_column = refl

unlike_lengths : first_grid_fault (0 ∷ 1 ∷ []) (1 ∷ []) ≡ Some Length
unlike_lengths = refl

too_high : first_grid_fault (0 ∷ 1 ∷ []) (1 ∷ 2 ∷ []) ≡ Some (Range 1)
too_high = refl

twice : first_grid_fault (0 ∷ 1 ∷ 1 ∷ []) (1 ∷ 0 ∷ 2 ∷ []) ≡ Some (Repeat 2)
twice = refl

two_in_a_cell : first_grid_fault (0 ∷ 1 ∷ 2 ∷ []) (1 ∷ 0 ∷ 2 ∷ []) ≡ Some (Same 2)
two_in_a_cell = refl

range_before_repeat : first_grid_fault (0 ∷ 1 ∷ 1 ∷ []) (0 ∷ 3 ∷ 2 ∷ []) ≡ Some (Range 1)
range_before_repeat = refl

repeat_before_same : first_grid_fault (0 ∷ 1 ∷ 1 ∷ []) (0 ∷ 0 ∷ 2 ∷ []) ≡ Some (Repeat 1)
repeat_before_same = refl

first_column_covers_row_three : covers right_trefoil 0 3 ≡ true
first_column_covers_row_three = refl

no_column_covers_its_end : (covers right_trefoil 0 2 || covers right_trefoil 0 4) ≡ false
no_column_covers_its_end = refl

fourth_column_is_up : is_up right_trefoil 3 ≡ true
fourth_column_is_up = refl

first_column_is_down : is_up right_trefoil 0 ≡ false
first_column_is_down = refl

left_trefoil_is_fine : first_grid_fault left_trefoil.x left_trefoil.o ≡ None
left_trefoil_is_fine = refl

closure_is_fine : first_grid_fault closure.x closure.o ≡ None
closure_is_fine = refl

bottoms_of_closure : bottoms closure ≡ 2
bottoms_of_closure = refl

ends_of_closure : ends closure 1 ≡ record { low = 4; high = 5 }
ends_of_closure = refl

-- five unknots side by side
bottoms_of_five : bottoms (record { x = 0 ∷ 1 ∷ 2 ∷ 3 ∷ 4 ∷ 5 ∷ 6 ∷ 7 ∷ 8 ∷ 9 ∷ []; o = 1 ∷ 0 ∷ 3 ∷ 2 ∷ 5 ∷ 4 ∷ 7 ∷ 6 ∷ 9 ∷ 8 ∷ [] }) ≡ 5
bottoms_of_five = refl

-- the crossings, by row from the lowest, and in a row by column from the left; and their signs
abbrev crossings : Diagram → List (ℕ × ℕ)
crossings d = flat_map (λ r. map (λ c. (c, r)) (filter (λ c. crosses d c r) (range_with_len 0 (size d)))) (range_with_len 0 (size d))

abbrev signs : Diagram → List ℤ
signs d = map (λ (at : ℕ × ℕ). sign d at.0 at.1) (crossings d)

crossings_of_right_trefoil : crossings right_trefoil ≡ (2, 1) ∷ (1, 2) ∷ (3, 3) ∷ []
crossings_of_right_trefoil = refl

right_trefoil_is_positive : signs right_trefoil ≡ pos 1 ∷ pos 1 ∷ pos 1 ∷ []
right_trefoil_is_positive = refl

crossings_of_left_trefoil : crossings left_trefoil ≡ (3, 1) ∷ (1, 2) ∷ (2, 3) ∷ []
crossings_of_left_trefoil = refl

left_trefoil_is_negative : signs left_trefoil ≡ negsuc 0 ∷ negsuc 0 ∷ negsuc 0 ∷ []
left_trefoil_is_negative = refl

-- two squares, each clasped once by the other: one through columns 0 and 2, the other through columns 1 and 3
abbrev pub hopf_link : Diagram
hopf_link = record { x = 0 ∷ 3 ∷ 2 ∷ 1 ∷ []; o = 2 ∷ 1 ∷ 0 ∷ 3 ∷ [] }

-- the same with the second square run through the other way
abbrev pub negative_hopf_link : Diagram
negative_hopf_link = record { x = 0 ∷ 1 ∷ 2 ∷ 3 ∷ []; o = 2 ∷ 3 ∷ 0 ∷ 1 ∷ [] }

crossings_of_hopf_link : crossings hopf_link ≡ (2, 1) ∷ (1, 2) ∷ []
crossings_of_hopf_link = refl

hopf_link_is_positive : signs hopf_link ≡ pos 1 ∷ pos 1 ∷ []
hopf_link_is_positive = refl

negative_hopf_link_is_negative : signs negative_hopf_link ≡ negsuc 0 ∷ negsuc 0 ∷ []
negative_hopf_link_is_negative = refl

-- column 2 of the right trefoil runs down over row 1, which runs to the right from its O in column 1 to its X in column 3
second_row_is_rightward : is_rightward right_trefoil 1 ≡ true
second_row_is_rightward = refl

down_and_rightward_is_positive : is_positive right_trefoil 2 1 ≡ true
down_and_rightward_is_positive = refl

-- row 1 of the right trefoil ends in columns 1 and 3, and crosses neither
no_row_crosses_its_ends : (crosses right_trefoil 1 1 || crosses right_trefoil 3 1) ≡ false
no_row_crosses_its_ends = refl
