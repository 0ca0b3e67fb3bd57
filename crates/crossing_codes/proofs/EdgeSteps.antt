-- Steps of the loop over the components that colours their edges.
use Rattle.std.proofs.Common.{◌≡◌, ◌<◌, ◌≤◌, ◌+◌, ◌++◌, ◌∙◌, ◌∷◌, [], ℕ, Bool, true, false, cond, List, length, map, take, get_or, refl}
use Rattle.std.proofs.Common.{sym, ap, ap₂, subst, ◌==◌, append-nil}
use Rattle.std.specs.Prelude.{slice_index}
use Rattle.std.specs.List.{All, flat_map, filter}
use Rattle.std.proofs.lemmas.Bool.{eq-eqb, ne_eqb}
use Rattle.std.proofs.lemmas.List.{take_more, take_all, map-append}
use Rattle.std.proofs.lemmas.List.Concat.{flat_map-append}
use Rattle.std.proofs.lemmas.List.Elements.{filter-append}
use Rattle.grid_core.specs.Diagram.{Diagram, IsGrid, size}
use Rattle.quandle_core.specs.Quandle.{Table, IsQuandle}
use Rattle.colour_rows.specs.Colouring.{IsColouring}
use Rattle.crossing_codes.specs.declared.passages.Passage.{Passage}
use Rattle.crossing_codes.specs.Components.{component_starts}
use Rattle.crossing_codes.specs.Passages.{passages_from}
use Rattle.crossing_codes.specs.EdgeColouring.{arriving, edge_colours}
use Rattle.crossing_codes.specs.OnTheWay.{LiesIn, passing, on_the_way}
use Rattle.crossing_codes.proofs.Members.{Has, has_at, has_flat_map}
use Rattle.crossing_codes.proofs.AllPassages.{passage_at}
use Rattle.crossing_codes.proofs.RowWalks.{Scans}
use Rattle.crossing_codes.proofs.Legs.{round_follows}
use Rattle.crossing_codes.proofs.CodeSteps.{map_joined}

way_arrives : (t : Table) (d : Diagram) (f : List ℕ) (x : ℕ) (ps : List Passage) → Scans t d f x ps → on_the_way t d f x ps ≡ map (arriving t d f) ps
way_arrives t d f x [] scans = refl
way_arrives t d f x (p ∷ ps) scans = ap₂ (λ (y : ℕ) (ys : List ℕ). y ∷ ys) (sym scans.0) (way_arrives t d f (passing t d f x p) ps scans.1)

-- on the way from a start the strand of a colouring comes to each passage with its colour
pub round_arrives : (t : Table) (d : Diagram) (f : List ℕ) → IsGrid d → IsQuandle t → IsColouring t d f → (s : ℕ) → s < size d
    → on_the_way t d f (get_or f s 0) (passages_from d s) ≡ map (arriving t d f) (passages_from d s)
round_arrives t d f grid q colouring s lt = way_arrives t d f (get_or f s 0) (passages_from d s) (round_follows t d f grid q colouring s lt).scans

-- the passages of a component lie in the diagram
pub round_inside : (d : Diagram) → IsGrid d → (ss : List ℕ) (i : ℕ) → ss ≡ component_starts d → i < length ss → All (LiesIn d) (passages_from d (get_or ss i 0))
round_inside d grid ss i are lt k z less =
    let s = get_or ss i 0 in
    let start : Has (component_starts d) s = subst (λ (zs : List ℕ). Has zs s) are (has_at ss i 0 lt) in
    let p = get_or (passages_from d s) k z in
    let at = passage_at d grid p (has_flat_map (passages_from d) (component_starts d) s p start (has_at (passages_from d s) k z less)) in
    (at.1, at.0)

-- the colours of the edges, and of the loops, of the components so far
abbrev pub edges_so_far : Table → Diagram → List ℕ → List ℕ → ℕ → List ℕ
edges_so_far t d f ss i = flat_map (λ s. map (arriving t d f) (passages_from d s)) (take i ss)

abbrev pub loops_so_far : Diagram → List ℕ → List ℕ → ℕ → List ℕ
loops_so_far d f ss i = map (slice_index f) (filter (λ s. length (passages_from d s) == 0) (take i ss))

pub edges_further : (t : Table) (d : Diagram) (f ss : List ℕ) (i : ℕ) (found longer : List ℕ) → i < length ss → found ≡ edges_so_far t d f ss i
    → longer ≡ found ++ map (arriving t d f) (passages_from d (get_or ss i 0)) → longer ≡ edges_so_far t d f ss (i + 1)
edges_further t d f ss i found longer lt so_far more =
    let g : ℕ → List ℕ = λ s. map (arriving t d f) (passages_from d s) in
    let s = get_or ss i 0 in
    more ∙ (ap (λ (xs : List ℕ). xs ++ g s) so_far
    ∙ (ap (λ (xs : List ℕ). edges_so_far t d f ss i ++ xs) (sym (append-nil (g s)))
    ∙ (sym (flat_map-append g (take i ss) (s ∷ [])) ∙ ap (flat_map g) (sym (take_more ss i 0 lt)))))

loops_by : (d : Diagram) (f ss : List ℕ) (i : ℕ) (b : Bool) → i < length ss → (length (passages_from d (get_or ss i 0)) == 0) ≡ b
    → loops_so_far d f ss (i + 1) ≡ loops_so_far d f ss i ++ map (slice_index f) (cond b (get_or ss i 0 ∷ []) [])
loops_by d f ss i b lt e =
    let test : ℕ → Bool = λ s. length (passages_from d s) == 0 in
    ap (λ (xs : List ℕ). map (slice_index f) (filter test xs)) (take_more ss i 0 lt)
    ∙ (ap (map (slice_index f)) (filter-append test (take i ss) (get_or ss i 0 ∷ []) ∙ ap (λ c. filter test (take i ss) ++ cond c (get_or ss i 0 ∷ []) []) e)
    ∙ map-append (slice_index f) (filter test (take i ss)) (cond b (get_or ss i 0 ∷ []) []))

pub loop_further : (d : Diagram) (f ss : List ℕ) (i : ℕ) (found longer : List ℕ) → i < length ss → length (passages_from d (get_or ss i 0)) ≡ 0
    → found ≡ loops_so_far d f ss i → longer ≡ found ++ get_or f (get_or ss i 0) 0 ∷ [] → longer ≡ loops_so_far d f ss (i + 1)
loop_further d f ss i found longer lt empty so_far more =
    more ∙ (ap (λ (xs : List ℕ). xs ++ get_or f (get_or ss i 0) 0 ∷ []) so_far
    ∙ sym (loops_by d f ss i true lt (eq-eqb (length (passages_from d (get_or ss i 0))) 0 empty)))

pub no_loop_further : (d : Diagram) (f ss : List ℕ) (i : ℕ) (found : List ℕ) → i < length ss → (length (passages_from d (get_or ss i 0)) ≡ 0 → ⊥)
    → found ≡ loops_so_far d f ss i → found ≡ loops_so_far d f ss (i + 1)
no_loop_further d f ss i found lt some so_far =
    so_far ∙ sym (loops_by d f ss i false lt (ne_eqb (length (passages_from d (get_or ss i 0))) 0 some) ∙ append-nil (loops_so_far d f ss i))

-- all of them
pub edges_done : (t : Table) (d : Diagram) (f ss : List ℕ) (i : ℕ) (edges found_loops : List ℕ) → ss ≡ component_starts d → length ss ≤ i
    → edges ≡ edges_so_far t d f ss i → found_loops ≡ loops_so_far d f ss i → edges ++ found_loops ≡ edge_colours t d f
edges_done t d f ss i edges found_loops are most so_far loops_too =
    let whole : take i ss ≡ component_starts d = take_all i ss most ∙ are in
    ap₂ (λ (xs ys : List ℕ). xs ++ ys)
    (so_far ∙ (ap (flat_map (λ s. map (arriving t d f) (passages_from d s))) whole ∙ sym (map_joined (arriving t d f) (passages_from d) (component_starts d))))
    (loops_too ∙ ap (λ (zs : List ℕ). map (slice_index f) (filter (λ s. length (passages_from d s) == 0) zs)) whole)
