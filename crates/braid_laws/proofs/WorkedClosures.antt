-- Worked examples, by computing.
use Rattle.std.proofs.Common.{◌≡◌, ◌∷◌, [], ℕ, ℤ, List, pos, negsuc, length, refl, true, false}
use Rattle.grid_core.specs.Diagram.{Diagram}
use Rattle.braid_core.specs.Braid.{Word}
use Rattle.quandle_core.specs.Tables.{dihedral, tetrahedral}
use Rattle.colour_rows.specs.Colouring.{is_colouring}
use Rattle.braid_closure.specs.Closure.{closure, feet, at_closure_feet}

abbrev minus_one : ℤ
minus_one = negsuc 0

abbrev minus_two : ℤ
minus_two = negsuc 1

abbrev word : ℕ → List ℤ → Word
word m letters = record { strands = m; letters = letters }

abbrev diagram : List ℕ → List ℕ → Diagram
diagram x o = record { x = x; o = o }

-- the trefoil, of three positive letters
trefoil : closure (word 2 (pos 1 ∷ pos 1 ∷ pos 1 ∷ [])) ≡ diagram (4 ∷ 3 ∷ 2 ∷ 0 ∷ 1 ∷ 5 ∷ 6 ∷ []) (6 ∷ 5 ∷ 4 ∷ 3 ∷ 2 ∷ 1 ∷ 0 ∷ [])
trefoil = refl

trefoil_feet : feet (word 2 (pos 1 ∷ pos 1 ∷ pos 1 ∷ [])) ≡ 3 ∷ 4 ∷ []
trefoil_feet = refl

-- colourings of the trefoil's closure, and what is read at its feet
by_reflections : is_colouring (dihedral 3) (closure (word 2 (pos 1 ∷ pos 1 ∷ pos 1 ∷ []))) (0 ∷ 1 ∷ 2 ∷ 0 ∷ 1 ∷ 1 ∷ 0 ∷ []) ≡ true
by_reflections = refl

by_rotations : is_colouring tetrahedral (closure (word 2 (pos 1 ∷ pos 1 ∷ pos 1 ∷ []))) (0 ∷ 1 ∷ 2 ∷ 0 ∷ 1 ∷ 1 ∷ 0 ∷ []) ≡ true
by_rotations = refl

other_rotation : is_colouring tetrahedral (closure (word 2 (pos 1 ∷ pos 1 ∷ pos 1 ∷ []))) (0 ∷ 1 ∷ 3 ∷ 0 ∷ 1 ∷ 1 ∷ 0 ∷ []) ≡ false
other_rotation = refl

read_at_feet : at_closure_feet (word 2 (pos 1 ∷ pos 1 ∷ pos 1 ∷ [])) (0 ∷ 1 ∷ 2 ∷ 0 ∷ 1 ∷ 1 ∷ 0 ∷ []) ≡ 0 ∷ 1 ∷ []
read_at_feet = refl

-- an unknot of one negative crossing
kink : closure (word 2 (minus_one ∷ [])) ≡ diagram (0 ∷ 1 ∷ 2 ∷ 3 ∷ 4 ∷ []) (2 ∷ 4 ∷ 3 ∷ 1 ∷ 0 ∷ [])
kink = refl

kink_feet : feet (word 2 (minus_one ∷ [])) ≡ 0 ∷ 1 ∷ []
kink_feet = refl

-- the unknot of one strand
unknot : closure (word 1 []) ≡ diagram (0 ∷ 1 ∷ []) (1 ∷ 0 ∷ [])
unknot = refl

unknot_feet : feet (word 1 []) ≡ 0 ∷ []
unknot_feet = refl

-- the Hopf link, and two circles
hopf_link : closure (word 2 (pos 1 ∷ pos 1 ∷ [])) ≡ diagram (3 ∷ 2 ∷ 0 ∷ 1 ∷ 4 ∷ 5 ∷ []) (5 ∷ 4 ∷ 3 ∷ 2 ∷ 1 ∷ 0 ∷ [])
hopf_link = refl

other_hopf_link : closure (word 2 (minus_one ∷ minus_one ∷ [])) ≡ diagram (0 ∷ 1 ∷ 2 ∷ 3 ∷ 4 ∷ 5 ∷ []) (2 ∷ 3 ∷ 5 ∷ 4 ∷ 1 ∷ 0 ∷ [])
other_hopf_link = refl

two_circles : closure (word 2 []) ≡ diagram (0 ∷ 1 ∷ 2 ∷ 3 ∷ []) (3 ∷ 2 ∷ 1 ∷ 0 ∷ [])
two_circles = refl

-- one positive and one negative letter of three strands
mixed : closure (word 3 (pos 2 ∷ minus_one ∷ [])) ≡ diagram (0 ∷ 3 ∷ 4 ∷ 1 ∷ 2 ∷ 5 ∷ 6 ∷ 7 ∷ []) (4 ∷ 7 ∷ 6 ∷ 5 ∷ 3 ∷ 2 ∷ 1 ∷ 0 ∷ [])
mixed = refl

-- the figure eight has size 10
figure_eight : length (closure (word 3 (pos 1 ∷ minus_two ∷ pos 1 ∷ minus_two ∷ []))).x ≡ 10
figure_eight = refl
