-- Worked rows, by computation.
use Rattle.std.specs.Prelude.{◌≡◌, ℕ, pos, negsuc, List, [], ◌∷◌, map, filter, length}
use Rattle.std.specs.List.{range_with_len}
use Rattle.std.proofs.Common.{refl}
use Rattle.grid_core.specs.Diagram.{Diagram, size}
use Rattle.grid_core.specs.Trefoils.{right_trefoil, left_trefoil}
use Rattle.grid_laws.proofs.WorkedDiagrams.{unknot}
use Rattle.quandle_core.specs.Quandle.{Table}
use Rattle.quandle_core.specs.Tables.{trivial, dihedral, tetrahedral}
use Rattle.quandle_core.specs.Colours.{all_lists}
use Rattle.colour_rows.specs.Colouring.{is_colouring}
use Rattle.braid_core.specs.Action.{action}
use Rattle.braid_core.specs.FixedPoints.{fixed_points}
use Rattle.grid_braid.specs.Strands.{strands_at}
use Rattle.grid_braid.specs.Word.{row_letters, word_of_diagram}
use Rattle.grid_braid.specs.Feet.{at_feet}

-- two strands, with crossings of both signs
abbrev kink : Diagram
kink = record { x = 0 ∷ 1 ∷ 2 ∷ 3 ∷ 4 ∷ []; o = 2 ∷ 4 ∷ 3 ∷ 1 ∷ 0 ∷ [] }

abbrev colourings : Table → Diagram → List (List ℕ)
colourings t d = filter (is_colouring t d) (all_lists t.order (size d))

-- the strands below each row and above the last, by their columns
trefoil_strands : map (strands_at right_trefoil) (range_with_len 0 6)
    ≡ (0 ∷ 1 ∷ 2 ∷ []) ∷ (0 ∷ 1 ∷ 4 ∷ []) ∷ (0 ∷ 3 ∷ 4 ∷ []) ∷ (2 ∷ 3 ∷ 4 ∷ []) ∷ (1 ∷ 2 ∷ 3 ∷ []) ∷ (0 ∷ 1 ∷ 2 ∷ []) ∷ []
trefoil_strands = refl

trefoil_rows : map (row_letters right_trefoil) (range_with_len 0 5) ≡ [] ∷ [] ∷ [] ∷ (pos 2 ∷ pos 1 ∷ []) ∷ (pos 2 ∷ pos 1 ∷ []) ∷ []
trefoil_rows = refl

trefoil_word : word_of_diagram right_trefoil ≡ record { strands = 3; letters = pos 2 ∷ pos 1 ∷ pos 2 ∷ pos 1 ∷ [] }
trefoil_word = refl

unknot_word : word_of_diagram unknot ≡ record { strands = 1; letters = [] }
unknot_word = refl

kink_word : word_of_diagram kink ≡ record { strands = 2; letters = pos 1 ∷ negsuc 0 ∷ negsuc 0 ∷ [] }
kink_word = refl

trefoil_feet : at_feet (dihedral 3) right_trefoil (0 ∷ 1 ∷ 2 ∷ 0 ∷ 2 ∷ []) ≡ 0 ∷ 2 ∷ 0 ∷ []
trefoil_feet = refl

not_fixed : action (dihedral 3) (word_of_diagram right_trefoil).letters (0 ∷ 1 ∷ 1 ∷ []) ≡ 2 ∷ 2 ∷ 0 ∷ []
not_fixed = refl

trefoil_fixed : fixed_points (dihedral 3) (word_of_diagram right_trefoil)
    ≡ (0 ∷ 0 ∷ 0 ∷ []) ∷ (0 ∷ 1 ∷ 0 ∷ []) ∷ (0 ∷ 2 ∷ 0 ∷ []) ∷ (1 ∷ 0 ∷ 1 ∷ []) ∷ (1 ∷ 1 ∷ 1 ∷ []) ∷ (1 ∷ 2 ∷ 1 ∷ []) ∷ (2 ∷ 0 ∷ 2 ∷ []) ∷ (2 ∷ 1 ∷ 2 ∷ []) ∷ (2 ∷ 2 ∷ 2 ∷ []) ∷ []
trefoil_fixed = refl

unknot_fixed : fixed_points (trivial 2) (word_of_diagram unknot) ≡ (0 ∷ []) ∷ (1 ∷ []) ∷ []
unknot_fixed = refl

-- the colourings in their order have these feet, which are the fixed points in another order
trefoil_all_feet : map (at_feet (dihedral 3) right_trefoil) (colourings (dihedral 3) right_trefoil)
    ≡ (0 ∷ 0 ∷ 0 ∷ []) ∷ (0 ∷ 2 ∷ 0 ∷ []) ∷ (0 ∷ 1 ∷ 0 ∷ []) ∷ (1 ∷ 2 ∷ 1 ∷ []) ∷ (1 ∷ 1 ∷ 1 ∷ []) ∷ (1 ∷ 0 ∷ 1 ∷ []) ∷ (2 ∷ 1 ∷ 2 ∷ []) ∷ (2 ∷ 0 ∷ 2 ∷ []) ∷ (2 ∷ 2 ∷ 2 ∷ []) ∷ []
trefoil_all_feet = refl

left_trefoil_by_rotations : length (fixed_points tetrahedral (word_of_diagram left_trefoil)) ≡ 16
left_trefoil_by_rotations = refl
