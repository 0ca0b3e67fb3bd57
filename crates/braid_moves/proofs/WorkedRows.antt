-- Worked rows, by computation.
use Rattle.std.proofs.Common.{◌≡◌, ◌∷◌, [], ℕ, ℤ, List, pos, negsuc, refl, Some, true, false}
use Rattle.quandle_core.specs.Tables.{dihedral}
use Rattle.braid_core.specs.Braid.{Word}
use Rattle.braid_moves.specs.declared.step.BraidMove.TheVariants.{Far, Triple, Cancel, Insert, Turn, Grow, Shrink}
use Rattle.braid_moves.specs.declared.step.BraidMoveFault.TheVariants.{Range, Shape}
use Rattle.braid_moves.specs.declared.ruling.BraidRuling.TheVariants.{Accepted, Step, OtherEnd}
use Rattle.braid_moves.specs.Step.{moved}
use Rattle.braid_moves.specs.Fault.{first_step_fault}
use Rattle.braid_moves.specs.Carried.{carried_tuple}
use Rattle.braid_moves.specs.Ruling.{ruling}

abbrev word : ℕ → List ℤ → Word
word m letters = record { strands = m; letters = letters }

-- the trefoil on three strands and on two
abbrev first : Word
first = word 3 (pos 2 ∷ pos 1 ∷ pos 2 ∷ pos 1 ∷ [])

abbrev second : Word
second = word 2 (pos 1 ∷ pos 1 ∷ pos 1 ∷ [])

accepted : ruling first second (Triple 0 ∷ Turn 2 ∷ Shrink ∷ []) ≡ Accepted
accepted = refl

other_end : ruling first second (Triple 0 ∷ Turn 2 ∷ []) ≡ OtherEnd
other_end = refl

no_shape : ruling first second (Shrink ∷ []) ≡ Step 0 Shape
no_shape = refl

back_again : ruling second first (Grow true ∷ Turn 2 ∷ Triple 0 ∷ []) ≡ Accepted
back_again = refl

grown : moved second (Grow false) ≡ word 3 (pos 1 ∷ pos 1 ∷ pos 1 ∷ negsuc 1 ∷ [])
grown = refl

inserted : moved second (Insert 3 (negsuc 0)) ≡ word 2 (pos 1 ∷ pos 1 ∷ pos 1 ∷ negsuc 0 ∷ pos 1 ∷ [])
inserted = refl

cancelled : moved (word 2 (pos 1 ∷ negsuc 0 ∷ pos 1 ∷ [])) (Cancel 1) ≡ word 2 (pos 1 ∷ [])
cancelled = refl

kept : carried_tuple (dihedral 3) first (Triple 0) (0 ∷ 2 ∷ 0 ∷ []) ≡ 0 ∷ 2 ∷ 0 ∷ []
kept = refl

turned : carried_tuple (dihedral 3) (moved first (Triple 0)) (Turn 2) (0 ∷ 2 ∷ 0 ∷ []) ≡ 1 ∷ 0 ∷ 0 ∷ []
turned = refl

dropped : carried_tuple (dihedral 3) (moved (moved first (Triple 0)) (Turn 2)) Shrink (1 ∷ 0 ∷ 0 ∷ []) ≡ 1 ∷ 0 ∷ []
dropped = refl

range_of_a_pair : first_step_fault first (Far 3) ≡ Some Range
range_of_a_pair = refl

neighbours : first_step_fault first (Far 0) ≡ Some Shape
neighbours = refl

mixed_signs : first_step_fault (word 3 (pos 1 ∷ negsuc 1 ∷ pos 1 ∷ [])) (Triple 0) ≡ Some Shape
mixed_signs = refl

zero_letter : first_step_fault first (Insert 0 (pos 0)) ≡ Some Range
zero_letter = refl

whole_turn : first_step_fault first (Turn 4) ≡ Some Range
whole_turn = refl

another_letter : first_step_fault (word 3 (pos 2 ∷ pos 1 ∷ pos 2 ∷ [])) Shrink ≡ Some Shape
another_letter = refl

one_strand : first_step_fault (word 1 []) Shrink ≡ Some Shape
one_strand = refl
