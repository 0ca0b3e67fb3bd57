-- Steps of the loop over the components that writes their lines.
use Rattle.std.proofs.Common.{◌≡◌, ◌<◌, ◌≤◌, ◌+◌, ◌++◌, ◌∙◌, ◌∷◌, [], ℕ, Bool, true, false, not, cond, List, length, map, take, get_or, sym}
use Rattle.std.proofs.Common.{ap, subst, ◌==◌, append-nil}
use Rattle.std.specs.List.{All, flat_map, filter}
use Rattle.std.proofs.lemmas.Bool.{eq-eqb, ne_eqb}
use Rattle.std.proofs.lemmas.List.{take_more, take_all, map-append}
use Rattle.std.proofs.lemmas.List.Concat.{flat_map-append}
use Rattle.std.proofs.lemmas.List.Elements.{filter-append}
use Rattle.grid_core.specs.Diagram.{Diagram, IsGrid}
use Rattle.crossing_codes.specs.declared.passages.Passage.{Passage}
use Rattle.crossing_codes.specs.Components.{component_starts}
use Rattle.crossing_codes.specs.Passages.{passages_from, crossings}
use Rattle.crossing_codes.specs.Printed.{gauss_line, gauss_text}
use Rattle.crossing_codes.specs.Layout.{IsNumbered, HasCrossingNumber}
use Rattle.crossing_codes.proofs.Members.{Has, has_at, has_flat_map}
use Rattle.crossing_codes.proofs.NumberSteps.{passage_numbered}

-- a table of all crossings has those of a component
pub round_numbered : (d : Diagram) → IsGrid d → (table ss : List ℕ) (i : ℕ) → IsNumbered (crossings d) table → ss ≡ component_starts d → i < length ss
    → All (HasCrossingNumber d table) (passages_from d (get_or ss i 0))
round_numbered d grid table ss i numbered are lt k z less =
    let s = get_or ss i 0 in
    let start : Has (component_starts d) s = subst (λ (zs : List ℕ). Has zs s) are (has_at ss i 0 lt) in
    let p = get_or (passages_from d s) k z in
    passage_numbered d grid table numbered p (has_flat_map (passages_from d) (component_starts d) s p start (has_at (passages_from d s) k z less))

-- the lines of the components so far
abbrev pub lines_so_far : Diagram → List ℕ → ℕ → List ℕ
lines_so_far d ss i = flat_map (gauss_line d) (filter (λ ps. not (length ps == 0)) (map (passages_from d) (take i ss)))

lines_by : (d : Diagram) (ss : List ℕ) (i : ℕ) (b : Bool) → i < length ss → not (length (passages_from d (get_or ss i 0)) == 0) ≡ b
    → lines_so_far d ss (i + 1) ≡ lines_so_far d ss i ++ flat_map (gauss_line d) (cond b (passages_from d (get_or ss i 0) ∷ []) [])
lines_by d ss i b lt e =
    let test : List Passage → Bool = λ ps. not (length ps == 0) in
    let g = passages_from d in
    let s = get_or ss i 0 in
    ap (λ (xs : List ℕ). flat_map (gauss_line d) (filter test (map g xs))) (take_more ss i 0 lt)
    ∙ (ap (λ (rs : List (List Passage)). flat_map (gauss_line d) (filter test rs)) (map-append g (take i ss) (s ∷ []))
    ∙ (ap (flat_map (gauss_line d)) (filter-append test (map g (take i ss)) (g s ∷ []) ∙ ap (λ c. filter test (map g (take i ss)) ++ cond c (g s ∷ []) []) e)
    ∙ flat_map-append (gauss_line d) (filter test (map g (take i ss))) (cond b (g s ∷ []) [])))

pub line_further : (d : Diagram) (ss : List ℕ) (i : ℕ) (out longer : List ℕ) → i < length ss → (length (passages_from d (get_or ss i 0)) ≡ 0 → ⊥)
    → out ≡ lines_so_far d ss i → longer ≡ out ++ gauss_line d (passages_from d (get_or ss i 0)) → longer ≡ lines_so_far d ss (i + 1)
line_further d ss i out longer lt some so_far more =
    let ps = passages_from d (get_or ss i 0) in
    more ∙ (ap (λ (xs : List ℕ). xs ++ gauss_line d ps) so_far
    ∙ (ap (λ (xs : List ℕ). lines_so_far d ss i ++ xs) (sym (append-nil (gauss_line d ps)))
    ∙ sym (lines_by d ss i true lt (ap not (ne_eqb (length ps) 0 some)))))

pub no_line_further : (d : Diagram) (ss : List ℕ) (i : ℕ) (out : List ℕ) → i < length ss → length (passages_from d (get_or ss i 0)) ≡ 0
    → out ≡ lines_so_far d ss i → out ≡ lines_so_far d ss (i + 1)
no_line_further d ss i out lt empty so_far =
    so_far ∙ sym (lines_by d ss i false lt (ap not (eq-eqb (length (passages_from d (get_or ss i 0))) 0 empty)) ∙ append-nil (lines_so_far d ss i))

pub lines_done : (d : Diagram) (ss : List ℕ) (i : ℕ) → ss ≡ component_starts d → length ss ≤ i → lines_so_far d ss i ≡ gauss_text d
lines_done d ss i are most =
    ap (λ (xs : List ℕ). flat_map (gauss_line d) (filter (λ ps. not (length ps == 0)) (map (passages_from d) xs))) (take_all i ss most ∙ are)
