-- Rows computed from the definitions of crates below.
use Rattle.std.proofs.Common.{◌≡◌, ◌≤◌, ◌+◌, ◌-◌, ◌*◌, ◌++◌, ◌∷◌, [], ℕ, ℤ, pos, negsuc, List, true, false, Some, None, replicate, map, filter, take, drop}
use Rattle.std.proofs.Common.{refl}
use Rattle.grid_core.specs.declared.grid.TheConstants.{MAX_SIZE}
use Rattle.grid_core.specs.declared.mark.Kind.TheVariants.{Cross, Ring}
use Rattle.grid_core.specs.declared.mark.Corner.TheVariants.{LowLeft, LowRight, HighLeft, HighRight}
use Rattle.grid_core.specs.Diagram.{Diagram}
use Rattle.grid_laws.proofs.WorkedDiagrams.{unknot}
use Rattle.grid_moves.specs.declared.step.Move.{Move}
use Rattle.grid_moves.specs.declared.step.Move.TheVariants.{Stabilise, Destabilise}
use Rattle.quandle_core.specs.Tables.{trivial, dihedral}
use Rattle.colour_list.specs.declared.limits.TheConstants.{MAX_COLOURINGS}
use Rattle.colour_list.specs.Fits.{fits}
use Rattle.braid_core.specs.Braid.{Word}
use Rattle.braid_core.specs.declared.braid.TheConstants.{MAX_STRANDS, INLINE_LETTERS}
use Rattle.braid_core.specs.declared.tuples.TheConstants.{MAX_TUPLES}
use Rattle.braid_core.specs.declared.tuples.FixFault.TheVariants.{TooWide}
use Rattle.braid_core.specs.FixedPoints.{wide_fault}
use Rattle.braid_moves.specs.declared.step.BraidMove.TheVariants.{Far, Cancel, Insert, Grow}
use Rattle.braid_moves.specs.declared.step.BraidMoveFault.TheVariants.{Range, Full}
use Rattle.braid_moves.specs.Step.{moved}
use Rattle.braid_moves.specs.Fault.{first_step_fault}
use Rattle.crossing_codes.specs.declared.crossing.Code.{Code}
use Rattle.crossing_codes.specs.declared.crossing.Crossing.{Crossing}
use Rattle.crossing_codes.specs.Edges.{loops}
use Rattle.crossing_codes.specs.Code.{code}
use Rattle.crossing_codes.specs.EdgeColouring.{edge_colours}
use Rattle.crossing_codes.specs.CodeColouring.{is_edge, is_code_colouring}
use Rattle.next_moves.specs.Tries.{Try, tries}
use Rattle.next_moves.specs.Offers.{is_offered}
use Rattle.text_laws.specs.Words.{braid_word}

-- the one place beside each constant that says its number
most_colourings : MAX_COLOURINGS ≡ 65536
most_colourings = refl

most_tuples : MAX_TUPLES ≡ 65536
most_tuples = refl

inline_letters : INLINE_LETTERS ≡ 16
inline_letters = refl

-- four unknots side by side have four bottoms: sixteen colours each fit, seventeen do not
abbrev four_unknots : Diagram
four_unknots = record { x = 0 ∷ 1 ∷ 2 ∷ 3 ∷ 4 ∷ 5 ∷ 6 ∷ 7 ∷ []; o = 1 ∷ 0 ∷ 3 ∷ 2 ∷ 5 ∷ 4 ∷ 7 ∷ 6 ∷ [] }

sixteen_fit : fits (trivial 16) four_unknots ≡ true
sixteen_fit = refl

seventeen_do_not : fits (trivial 17) four_unknots ≡ false
seventeen_do_not = refl

seventeen_are_wide : wide_fault (trivial 17) (braid_word 4 []) ≡ Some (TooWide 4)
seventeen_are_wide = refl

-- ---- legal steps of braids, and those for which there is no room

far_is_legal : first_step_fault (braid_word 4 (pos 1 ∷ negsuc 2 ∷ [])) (Far 0) ≡ None
far_is_legal = refl

far_leads : moved (braid_word 4 (pos 1 ∷ negsuc 2 ∷ [])) (Far 0) ≡ braid_word 4 (negsuc 2 ∷ pos 1 ∷ [])
far_leads = refl

cancel_is_legal : first_step_fault (braid_word 3 (pos 2 ∷ negsuc 0 ∷ pos 1 ∷ [])) (Cancel 1) ≡ None
cancel_is_legal = refl

insert_is_legal : first_step_fault (braid_word 3 (pos 2 ∷ [])) (Insert 1 (negsuc 1)) ≡ None
insert_is_legal = refl

insert_behind_the_end : first_step_fault (braid_word 3 (pos 2 ∷ [])) (Insert 2 (negsuc 1)) ≡ Some Range
insert_behind_the_end = refl

-- two letters more than two strands have just room for, and one more than that
insert_has_room : first_step_fault (braid_word 2 (replicate (MAX_SIZE - 6) (pos 1))) (Insert 0 (pos 1)) ≡ None
insert_has_room = refl

insert_is_full : first_step_fault (braid_word 2 (replicate (MAX_SIZE - 5) (pos 1))) (Insert 0 (pos 1)) ≡ Some Full
insert_is_full = refl

-- range comes before room
out_of_range_and_full : first_step_fault (braid_word 2 (replicate (MAX_SIZE - 5) (pos 1))) (Insert 0 (pos 2)) ≡ Some Range
out_of_range_and_full = refl

grow_has_room : first_step_fault (braid_word 2 (replicate (MAX_SIZE - 7) (pos 1))) (Grow true) ≡ None
grow_has_room = refl

grow_is_full : first_step_fault (braid_word 2 (replicate (MAX_SIZE - 6) (pos 1))) (Grow false) ≡ Some Full
grow_is_full = refl

last_strand : first_step_fault (braid_word (MAX_STRANDS - 1) []) (Grow true) ≡ None
last_strand = refl

no_strand_more : first_step_fault (braid_word MAX_STRANDS []) (Grow true) ≡ Some Full
no_strand_more = refl

-- ---- edges and loops

abbrev two_unknots : Diagram
two_unknots = record { x = 0 ∷ 1 ∷ 2 ∷ 3 ∷ []; o = 1 ∷ 0 ∷ 3 ∷ 2 ∷ [] }

two_loops : loops two_unknots ≡ 0 ∷ 2 ∷ []
two_loops = refl

by_least_column : edge_colours (dihedral 3) two_unknots (1 ∷ 1 ∷ 2 ∷ 2 ∷ []) ≡ 1 ∷ 2 ∷ []
by_least_column = refl

-- an unknot, and behind it two linked ones: four edges and then a loop
abbrev loop_before_links : Diagram
loop_before_links = record { x = 0 ∷ 1 ∷ 2 ∷ 3 ∷ 4 ∷ 5 ∷ []; o = 1 ∷ 0 ∷ 4 ∷ 5 ∷ 2 ∷ 3 ∷ [] }

edges_then_loop : edge_colours (dihedral 3) loop_before_links (2 ∷ 2 ∷ 1 ∷ 1 ∷ 1 ∷ 1 ∷ []) ≡ 1 ∷ 1 ∷ 1 ∷ 1 ∷ 2 ∷ []
edges_then_loop = refl

-- the number behind the last edge is that of a loop, and no edge
no_edge_zero : is_edge 4 0 ≡ false
no_edge_zero = refl

last_edge : is_edge 4 4 ≡ true
last_edge = refl

no_loop : is_edge 4 5 ≡ false
no_loop = refl

abbrev one_crossing : ℕ → Code
one_crossing edge = record {
  crossings = record { first = 1; second = 2; third = 1; fourth = edge; positive = true } ∷ [];
  edges = 2;
  loops = 1;
}

names_an_edge : is_code_colouring (trivial 2) (one_crossing 2) (0 ∷ 1 ∷ 1 ∷ []) ≡ true
names_an_edge = refl

names_a_loop : is_code_colouring (trivial 2) (one_crossing 3) (0 ∷ 1 ∷ 1 ∷ []) ≡ false
names_a_loop = refl

-- ---- the order of offers above a diagram's own size

-- an unknot of three columns: behind six slides come six destabilisations, and then the stabilisations by column, kind and corner
abbrev three : Diagram
three = record { x = 0 ∷ 1 ∷ 2 ∷ []; o = 1 ∷ 2 ∷ 0 ∷ [] }

steps_behind_the_slides : map (λ (t : Try). t.step) (drop 6 (filter (is_offered three 4) (tries 3)))
    ≡ Destabilise 0 0 ∷ Destabilise 0 1 ∷ Destabilise 1 1 ∷ Destabilise 1 1 ∷ Destabilise 1 0 ∷ Destabilise 1 1
    ∷ Stabilise 0 Cross LowLeft ∷ Stabilise 0 Cross LowRight ∷ Stabilise 0 Cross HighLeft ∷ Stabilise 0 Cross HighRight
    ∷ Stabilise 0 Ring LowLeft ∷ Stabilise 0 Ring LowRight ∷ Stabilise 0 Ring HighLeft ∷ Stabilise 0 Ring HighRight
    ∷ Stabilise 1 Cross LowLeft ∷ Stabilise 1 Cross LowRight ∷ Stabilise 1 Cross HighLeft ∷ Stabilise 1 Cross HighRight
    ∷ Stabilise 1 Ring LowLeft ∷ Stabilise 1 Ring LowRight ∷ Stabilise 1 Ring HighLeft ∷ Stabilise 1 Ring HighRight
    ∷ Stabilise 2 Cross LowLeft ∷ Stabilise 2 Cross LowRight ∷ Stabilise 2 Cross HighLeft ∷ Stabilise 2 Cross HighRight
    ∷ Stabilise 2 Ring LowLeft ∷ Stabilise 2 Ring LowRight ∷ Stabilise 2 Ring HighLeft ∷ Stabilise 2 Ring HighRight ∷ []
steps_behind_the_slides = refl
