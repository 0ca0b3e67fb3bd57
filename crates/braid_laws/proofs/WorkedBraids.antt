-- Worked examples, by computing.
use Rattle.std.proofs.Common.{◌≡◌, ◌∷◌, [], ◌++◌, ◌-◌, replicate, ℕ, ℤ, List, pos, negsuc, length, refl, Some, None}
use Rattle.grid_core.specs.declared.grid.TheConstants.{MAX_SIZE}
use Rattle.quandle_core.specs.Tables.{trivial, dihedral, tetrahedral}
use Rattle.braid_core.specs.Braid.{Word}
use Rattle.braid_core.specs.Action.{letter_action, action}
use Rattle.braid_core.specs.FixedPoints.{fixed_points, all_tuples, wide_fault}
use Rattle.braid_core.specs.Fault.{first_word_fault}
use Rattle.braid_core.specs.declared.fault.BraidFault.TheVariants.{Strands, Letter, Size}
use Rattle.braid_core.specs.declared.tuples.FixFault.TheVariants.{TooWide}

-- the letters +k and -k, for k from 1 on
abbrev plus : ℕ → ℤ
plus k = pos k

abbrev minus_one : ℤ
minus_one = negsuc 0

abbrev minus_two : ℤ
minus_two = negsuc 1

abbrev word : ℕ → List ℤ → Word
word m letters = record { strands = m; letters = letters }

abbrev trefoil : Word
trefoil = word 2 (plus 1 ∷ plus 1 ∷ plus 1 ∷ [])

abbrev hopf_link : Word
hopf_link = word 2 (plus 1 ∷ plus 1 ∷ [])

abbrev figure_eight : Word
figure_eight = word 3 (plus 1 ∷ minus_two ∷ plus 1 ∷ minus_two ∷ [])

-- (0, 1) becomes (1 ▷ 0, 0) under +1 and (1, 0 ◁ 1) under -1
passes_left : letter_action tetrahedral (0 ∷ 1 ∷ []) (plus 1) ≡ 2 ∷ 0 ∷ []
passes_left = refl

passes_right : letter_action tetrahedral (0 ∷ 1 ∷ []) minus_one ≡ 1 ∷ 2 ∷ []
passes_right = refl

-- the letters act from first to last
one_then_two : action (dihedral 3) (plus 1 ∷ plus 2 ∷ []) (0 ∷ 2 ∷ 0 ∷ []) ≡ 1 ∷ 0 ∷ 0 ∷ []
one_then_two = refl

trefoil_by_reflections : fixed_points (dihedral 3) trefoil ≡ all_tuples 3 2
trefoil_by_reflections = refl

trefoil_by_rotations : length (fixed_points tetrahedral trefoil) ≡ 16
trefoil_by_rotations = refl

trefoil_of_three_strands : fixed_points (dihedral 3) (word 3 (plus 2 ∷ plus 1 ∷ plus 2 ∷ plus 1 ∷ []))
    ≡ (0 ∷ 0 ∷ 0 ∷ []) ∷ (0 ∷ 1 ∷ 0 ∷ []) ∷ (0 ∷ 2 ∷ 0 ∷ []) ∷ (1 ∷ 0 ∷ 1 ∷ []) ∷ (1 ∷ 1 ∷ 1 ∷ []) ∷ (1 ∷ 2 ∷ 1 ∷ []) ∷ (2 ∷ 0 ∷ 2 ∷ []) ∷ (2 ∷ 1 ∷ 2 ∷ []) ∷ (2 ∷ 2 ∷ 2 ∷ []) ∷ []
trefoil_of_three_strands = refl

figure_eight_by_reflections : fixed_points (dihedral 3) figure_eight ≡ (0 ∷ 0 ∷ 0 ∷ []) ∷ (1 ∷ 1 ∷ 1 ∷ []) ∷ (2 ∷ 2 ∷ 2 ∷ []) ∷ []
figure_eight_by_reflections = refl

figure_eight_of_a_pentagon : length (fixed_points (dihedral 5) figure_eight) ≡ 25
figure_eight_of_a_pentagon = refl

trefoil_of_a_pentagon : length (fixed_points (dihedral 5) trefoil) ≡ 5
trefoil_of_a_pentagon = refl

hopf_link_by_reflections : length (fixed_points (dihedral 3) hopf_link) ≡ 3
hopf_link_by_reflections = refl

two_circles : length (fixed_points (dihedral 3) (word 2 [])) ≡ 9
two_circles = refl

components : fixed_points (trivial 2) (word 2 (minus_one ∷ [])) ≡ (0 ∷ 0 ∷ []) ∷ (1 ∷ 1 ∷ []) ∷ []
components = refl

-- the first fault in its order
no_strands : first_word_fault (word 0 []) ≡ Some Strands
no_strands = refl

nine_strands : first_word_fault (word 9 (pos 9 ∷ [])) ≡ Some Strands
nine_strands = refl

third_letter : first_word_fault (word 3 (plus 2 ∷ minus_two ∷ plus 3 ∷ pos 0 ∷ [])) ≡ Some (Letter 2)
third_letter = refl

zero_letter : first_word_fault (word 3 (plus 1 ∷ pos 0 ∷ [])) ≡ Some (Letter 1)
zero_letter = refl

-- one letter more than eight strands leave room for, and as many
no_room : first_word_fault (word 8 (replicate (MAX_SIZE - 16) (plus 1) ++ plus 7 ∷ [])) ≡ Some Size
no_room = refl

just_room : first_word_fault (word 8 (replicate (MAX_SIZE - 17) (plus 1) ++ plus 7 ∷ [])) ≡ None
just_room = refl

four_wide : wide_fault (trivial 16) (word 4 []) ≡ None
four_wide = refl

five_wide : wide_fault (trivial 16) (word 5 []) ≡ Some (TooWide 5)
five_wide = refl
