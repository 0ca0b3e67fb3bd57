-- Steps of the loops over the components and their edges.
use Rattle.std.proofs.Common.{◌≡◌, ◌<◌, ◌≤◌, ◌+◌, ◌++◌, ◌∙◌, ◌∷◌, [], ℕ, Bool, true, false, cond, List, length, map, take, drop, get_or}
use Rattle.std.proofs.Common.{refl, sym, ap, arith, ◌==◌, append_assoc, append-nil, take-append-drop}
use Rattle.std.specs.Prelude.{nat_lt, if◌then◌else◌}
use Rattle.std.specs.List.{range_with_len, flat_map, filter}
use Rattle.std.proofs.lemmas.List.{length-append, length-take, take_more}
use Rattle.std.proofs.lemmas.List.Concat.{flat_map-append}
use Rattle.std.proofs.lemmas.List.Elements.{filter-append}
use Rattle.std.proofs.lemmas.List.FromFn.{map-range_with_len_more}
use Rattle.std.proofs.lemmas.List.Sums.{length-filter, count_by-le-length}
use Rattle.grid_core.specs.declared.grid.TheConstants.{MAX_SIZE}
use Rattle.grid_core.specs.Diagram.{Diagram, IsGrid}
use Rattle.crossing_codes.specs.declared.passages.Passage.{Passage}
use Rattle.crossing_codes.specs.declared.edges.TheConstants.{MAX_SLOTS}
use Rattle.crossing_codes.specs.Components.{component_starts}
use Rattle.crossing_codes.specs.Passages.{passages_from}
use Rattle.crossing_codes.specs.Edges.{leads_to, all_lead_to}
use Rattle.crossing_codes.proofs.Placed.{lead_split}
use Rattle.crossing_codes.proofs.Slots.{few_passages}

-- one edge more
pub leads_more : (b p done next : ℕ) (before after longer : List ℕ) → next ≡ (if nat_lt (done + 1) p then b + (done + 1) + 1 else b + 1)
    → longer ≡ after ++ next ∷ []
    → after ≡ before ++ map (λ t. if nat_lt t p then b + t + 1 else b + 1) (range_with_len 1 done)
    → longer ≡ before ++ map (λ t. if nat_lt t p then b + t + 1 else b + 1) (range_with_len 1 (done + 1))
leads_more b p done next before after longer is more so_far =
    let g : ℕ → ℕ = λ t. if nat_lt t p then b + t + 1 else b + 1 in
    more ∙ (ap (λ (es : List ℕ). es ++ next ∷ []) so_far
    ∙ (append_assoc before (map g (range_with_len 1 done)) (next ∷ [])
    ∙ ap (λ (es : List ℕ). before ++ es)
    (ap (λ (e : ℕ). map g (range_with_len 1 done) ++ e ∷ []) is ∙ sym (map-range_with_len_more g 1 done (done + 1) (omega arith)))))

-- a front of the components has at most all passages
pub front_fewer : {A B : Type 0} (g : A → List B) (ss : List A) (i : ℕ) → length (flat_map g (take i ss)) ≤ length (flat_map g ss)
front_fewer g ss i =
    let whole = ap (λ (zs : List _). length (flat_map g zs)) (take-append-drop i ss) in
    omega (arith, whole, ap length (flat_map-append g (take i ss) (drop i ss)), length-append (flat_map g (take i ss)) (flat_map g (drop i ss)))

-- one component more
pub all_lead_more : {A B : Type 0} (g : A → List B) (ss : List A) (s : A)
    → all_lead_to 0 (map (λ x. length (g x)) (ss ++ s ∷ [])) ≡ all_lead_to 0 (map (λ x. length (g x)) ss) ++ leads_to (length (flat_map g ss)) (length (g s))
all_lead_more g ss s =
    let e : 0 + length (flat_map g ss) ≡ length (flat_map g ss) = omega arith in
    lead_split g 0 ss s []
    ∙ ap (λ (es : List ℕ). all_lead_to 0 (map (λ x. length (g x)) ss) ++ es)
    (append-nil (leads_to (0 + length (flat_map g ss)) (length (g s))) ∙ ap (λ (b : ℕ). leads_to b (length (g s))) e)

pub loops_more : {A B : Type 0} (g : A → List B) (ss : List A) (s : A) (b : Bool) → (length (g s) == 0) ≡ b
    → length (filter (λ x. length (g x) == 0) (ss ++ s ∷ [])) ≡ length (filter (λ x. length (g x) == 0) ss) + cond b 1 0
loops_more g ss s b e =
    ap length (filter-append (λ x. length (g x) == 0) ss (s ∷ []) ∙ ap (λ c. filter (λ x. length (g x) == 0) ss ++ cond c (s ∷ []) []) e)
    ∙ (length-append (filter (λ x. length (g x) == 0) ss) (cond b (s ∷ []) []) ∙ ap (λ (k : ℕ). length (filter (λ x. length (g x) == 0) ss) + k) (by b))
  where
    by : (c : Bool) → length (cond c (s ∷ []) []) ≡ cond c 1 0
    by true = refl
    by false = refl

-- the passages of one component more
pub round_more : {B : Type 0} (g : ℕ → List B) (ss : List ℕ) (i : ℕ) (so_far longer : List B) → i < length ss → so_far ≡ flat_map g (take i ss)
    → longer ≡ so_far ++ g (get_or ss i 0) → longer ≡ flat_map g (take (i + 1) ss)
round_more g ss i so_far longer lt is more =
    more ∙ (ap (λ ps. ps ++ g (get_or ss i 0)) is
    ∙ (ap (λ ps. flat_map g (take i ss) ++ ps) (sym (append-nil (g (get_or ss i 0))))
    ∙ (sym (flat_map-append g (take i ss) (get_or ss i 0 ∷ [])) ∙ ap (flat_map g) (sym (take_more ss i 0 lt)))))

-- so far there are few passages
pub few_so_far : (d : Diagram) → IsGrid d → (ss : List ℕ) (i : ℕ) (ps : List Passage) → ss ≡ component_starts d → ps ≡ flat_map (passages_from d) (take i ss)
    → length ps ≤ MAX_SLOTS
few_so_far d grid ss i ps are is =
    let few = few_passages d grid in
    let whole = ap (λ (zs : List ℕ). length (flat_map (passages_from d) zs)) are in
    omega (arith, ap length is, whole, front_fewer (passages_from d) ss i, few)

-- and few loops
pub few_loops : (d : Diagram) (ss : List ℕ) (i n : ℕ) → length ss ≤ MAX_SIZE → n ≡ length (filter (λ s. length (passages_from d s) == 0) (take i ss))
    → n ≤ MAX_SIZE
few_loops d ss i n few is =
    omega (
      arith,
      is,
      few,
      length-filter (λ s. length (passages_from d s) == 0) (take i ss),
      count_by-le-length (λ s. length (passages_from d s) == 0)
          (take i ss),
      length-take i ss,
    )
