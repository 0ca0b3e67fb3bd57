-- Edges, component by component.
use Rattle.std.proofs.Common.{◌≡◌, ◌<◌, ◌+◌, ◌-◌, ◌*◌, ◌++◌, ◌∙◌, ◌∷◌, [], inl, inr, ℕ, zero, suc, Bool, true, false, List, length, map}
use Rattle.std.proofs.Common.{get_or, refl, sym, ap, ap₂, subst, arith, ◌↔◌, ◌⊎◌}
use Rattle.std.specs.Prelude.{codes, take, nat_lt, if◌then◌else◌, pos, int_lt, Contains}
use Rattle.std.specs.List.{range_with_len, flat_map}
use Rattle.std.specs.List.Sorted.{IsPermutation}
use Rattle.std.proofs.lemmas.Bool.{cases_lt, lt-ltb, le-ltb, cond-true, cond-false, and_parts, and_from}
use Rattle.std.proofs.lemmas.List.{length-append, length-map, get_or-map, ext_get_or}
use Rattle.std.proofs.lemmas.List.FromFn.{length-range_with_len, get_or-range_with_len, get_or-map-range_with_len}
use Rattle.std.proofs.lemmas.List.FromFn.{length-map-range_with_len, map-range_with_len_more}
use Rattle.std.proofs.lemmas.List.Sorted.{IsPermutation-refl, IsPermutation-append, IsPermutation-to_front, IsPermutation-sym, length_permutation}
use Rattle.grid_core.specs.Diagram.{Diagram, IsGrid, size}
use Rattle.grid_core.specs.Span.{lies_within}
use Rattle.grid_core.specs.Parts.{covers, ends, is_up, is_rightward}
use Rattle.grid_core.specs.Crossing.{crosses, Direction, unit, row_direction, turned_left, cross_product, is_positive}
use Rattle.quandle_core.specs.Quandle.{Table, IsQuandle}
use Rattle.colour_rows.specs.Colouring.{IsColouring}
use Rattle.crossing_codes.specs.declared.passages.Passage.{Passage}
use Rattle.crossing_codes.specs.Components.{component, component_starts}
use Rattle.crossing_codes.specs.Passages.{Crossed, crossings, through, passages, passages_from}
use Rattle.crossing_codes.specs.Edges.{leads_to, all_lead_to, edges_after, edges_before, place, edge_from, edge_to}
use Rattle.crossing_codes.specs.Printed.{passage_token}
use Rattle.crossing_codes.specs.Code.{opposite, crossing, AreCounterclockwise}
use Rattle.crossing_codes.specs.CodeColouring.{edge_colour}
use Rattle.crossing_codes.specs.EdgeColouring.{arriving, edge_colours}
use Rattle.crossing_codes.specs.OnTheWay.{passing}
use Rattle.crossing_codes.proofs.Members.{Has, has_at, place_in, same_members, apart_range, has_range, of_range, has_flat_map, of_flat_map}
use Rattle.crossing_codes.proofs.SharedColumns.{member_below, start_of, start_below, order_apart}
use Rattle.crossing_codes.proofs.Crossings.{has_crossing, of_crossings}
use Rattle.crossing_codes.proofs.AllPassages.{twice, each_twice, place_is, stands_at}
use Rattle.crossing_codes.proofs.Placed.{placed, length_after, length_leads, leads_at}
use Rattle.crossing_codes.proofs.Legs.{range_split}
use Rattle.crossing_codes.proofs.ColourForth.{edge_at, turns_forth}

-- what a list contains
pub has_contained : {A : Type 0} (xs : List A) (x : A) → Contains xs x → Has xs x
has_contained xs x h = subst (λ y. Has xs y) h.2 (has_at xs h.0 x h.1)

pub contained : {A : Type 0} (xs : List A) (x : A) → Has xs x → Contains xs x
contained xs x h = let r = place_in xs x h in (r.0, r.1, r.2 x)

pub where_crossings : (d : Diagram) (at : Crossed) → Contains (crossings d) at ↔ ((at.row < size d) × (crosses d at.column at.row ≡ true))
where_crossings d at = (
  λ h.
      let r = of_crossings d at (has_contained (crossings d) at h) in
      (r.0, and_from (covers d at.column at.row) (lies_within (ends d at.row) at.column) r.1.covered r.1.across),
  λ h.
      let both = and_parts (covers d at.column at.row) (lies_within (ends d at.row) at.column) h.1 in
      contained (crossings d) at (has_crossing d at.column at.row h.0 (record { covered = both.0; across = both.1 })),
)

pub columns_shared : (d : Diagram) → IsGrid d → IsPermutation (range_with_len 0 (size d)) (flat_map (component d) (component_starts d))
columns_shared d grid =
    same_members (range_with_len 0 (size d)) (flat_map (component d) (component_starts d)) (apart_range 0 (size d)) (order_apart d grid)
    (λ c h. let m = of_range 0 (size d) c h in let s = start_of d grid c (omega arith) in has_flat_map (component d) (component_starts d) s.0 c s.1 s.2)
    (λ c h. let s = of_flat_map (component d) (component_starts d) c h in let b = member_below d grid s.0 c (start_below d s.0 s.1) s.2 in has_range 0
    (size d) c
    (omega arith) (omega arith))

pub count_twice : (d : Diagram) → IsGrid d → length (passages d) ≡ 2 * length (crossings d)
count_twice d grid =
    omega (
      arith,
      length_permutation (passages d) (twice d) (each_twice d grid),
      length-append (map (through true) (crossings d))
          (map (through false) (crossings d)),
      length-map (crossings d) (through true),
      length-map (crossings d) (through false),
    )

-- the edge that leads to a passage, by its place
pub place_at : (d : Diagram) → IsGrid d → (k : ℕ) (z : Passage) → k < length (passages d) → place d (get_or (passages d) k z) ≡ k
place_at d grid k z lt = let p = get_or (passages d) k z in place_is d grid p.over p.column p.row k z lt refl

pub edges_end : (d : Diagram) → IsGrid d → map (edge_from d) (passages d) ≡ range_with_len 1 (length (passages d))
edges_end d grid =
    let z : Passage = record { over = true; column = 0; row = 0 } in
    ext_get_or 0 (map (edge_from d) (passages d)) (range_with_len 1 (length (passages d)))
    (length-map (passages d) (edge_from d) ∙ sym (length-range_with_len 1 (length (passages d))))
    (λ k lt. let inside : k < length (passages d) = omega (arith, lt, length-map (passages d) (edge_from d)) in
    get_or-map (edge_from d) (passages d) k z 0 inside
    ∙ (ap (λ (i : ℕ). i + 1) (place_at d grid k z inside) ∙ (omega arith ∙ sym (get_or-range_with_len 1 (length (passages d)) k 0 inside))))

pub edges_begin : (d : Diagram) → IsGrid d → map (edge_to d) (passages d) ≡ edges_after d
edges_begin d grid =
    let z : Passage = record { over = true; column = 0; row = 0 } in
    ext_get_or 0 (map (edge_to d) (passages d)) (edges_after d) (length-map (passages d) (edge_to d) ∙ sym (length_after d))
    (λ k lt. let inside : k < length (passages d) = omega (arith, lt, length-map (passages d) (edge_to d)) in
    get_or-map (edge_to d) (passages d) k z 0 inside ∙ ap (λ (i : ℕ). get_or (edges_after d) i 0) (place_at d grid k z inside))

-- the edges of a component, turned by one
leads_turned : (b m : ℕ) → leads_to b (suc m) ≡ range_with_len (b + 1 + 1) m ++ (b + 1) ∷ []
leads_turned b m =
    let g : ℕ → ℕ = λ t. if nat_lt t (suc m) then b + t + 1 else b + 1 in
    let one : suc m ≡ m + 1 = omega arith in
    ap (λ (n : ℕ). map g (range_with_len 1 n)) one
    ∙ (map-range_with_len_more g 1 m (m + 1) (omega arith)
    ∙ ap₂ (λ (es : List ℕ) (e : ℕ). es ++ e ∷ [])
    (ext_get_or 0 (map g (range_with_len 1 m)) (range_with_len (b + 1 + 1) m) (length-map-range_with_len g 1 m ∙ sym (length-range_with_len (b + 1 + 1) m))
    (λ k lt. let inside : k < m = omega (arith, lt, length-map-range_with_len g 1 m) in
    get_or-map-range_with_len g 1 m k (k + 1) 0 inside (omega arith)
    ∙ (cond-true (nat_lt (k + 1) (suc m)) (b + (k + 1) + 1) (b + 1) (lt-ltb (k + 1) (suc m) (omega arith))
    ∙ (omega arith ∙ sym (get_or-range_with_len (b + 1 + 1) m k 0 inside)))))
    (cond-false (nat_lt (m + 1) (suc m)) (b + (m + 1) + 1) (b + 1) (le-ltb (m + 1) (suc m) (omega arith))))

leads_permute : (b p : ℕ) → IsPermutation (range_with_len (b + 1) p) (leads_to b p)
leads_permute b zero = IsPermutation-refl []
leads_permute b (suc m) =
    subst (λ (es : List ℕ). IsPermutation (range_with_len (b + 1) (suc m)) es) (sym (leads_turned b m))
    (IsPermutation-sym (range_with_len (b + 1 + 1) m ++ (b + 1) ∷ []) ((b + 1) ∷ range_with_len (b + 1 + 1) m)
    (IsPermutation-to_front (range_with_len (b + 1 + 1) m) (b + 1)))

all_permute : {A B : Type 0} (g : A → List B) (b : ℕ) (ss : List A)
    → IsPermutation (range_with_len (b + 1) (length (flat_map g ss))) (all_lead_to b (map (λ s. length (g s)) ss))
all_permute g b [] = IsPermutation-refl []
all_permute g b (s ∷ ss) =
    let p = length (g s) in
    let n = length (flat_map g ss) in
    let further : b + 1 + p ≡ b + p + 1 = omega arith in
    subst (λ (xs : List ℕ). IsPermutation xs (leads_to b p ++ all_lead_to (b + p) (map (λ x. length (g x)) ss)))
    (sym (ap (range_with_len (b + 1)) (length-append (g s) (flat_map g ss))
    ∙ (range_split (b + 1) p n ∙ ap (λ (i : ℕ). range_with_len (b + 1) p ++ range_with_len i n) further)))
    (IsPermutation-append (range_with_len (b + 1) p) (leads_to b p) (range_with_len (b + p + 1) n) (all_lead_to (b + p) (map (λ x. length (g x)) ss))
    (leads_permute b p) (all_permute g (b + p) ss))

pub edges_each : (d : Diagram) → IsPermutation (range_with_len 1 (length (passages d))) (edges_after d)
edges_each d =
    let zero_one : 0 + 1 ≡ 1 = omega arith in
    subst (λ (i : ℕ). IsPermutation (range_with_len i (length (passages d))) (edges_after d)) zero_one (all_permute (passages_from d) 0 (component_starts d))

-- the edges of one component
pub edges_of_round : (d : Diagram) → IsGrid d → (s : ℕ) → Has (component_starts d) s
    → (map (edge_from d) (passages_from d s) ≡ range_with_len (edges_before d s + 1) (length (passages_from d s))) × (map (edge_to d) (passages_from d s) ≡ leads_to (edges_before d s) (length (passages_from d s)))
edges_of_round d grid s h =
    let z : Passage = record { over = true; column = 0; row = 0 } in
    let placing = placed d s h in
    let b = placing.0 in
    let p = placing.1 in
    let ps = passages_from d s in
    let n = length ps in
    let inside = p.within in
    let stands : (k : ℕ) → k < n → place d (get_or ps k z) ≡ b + k = λ k lt. ap (place d) (sym (p.passage k z lt)) ∙ place_at d grid (b + k) z (omega arith) in
    subst (λ (b : ℕ). (map (edge_from d) ps ≡ range_with_len (b + 1) n) × (map (edge_to d) ps ≡ leads_to b n)) (sym p.before) (
      ext_get_or 0 (map (edge_from d) ps) (range_with_len (b + 1) n) (length-map ps (edge_from d) ∙ sym (length-range_with_len (b + 1) n))
          (λ k lt. let less : k < n = omega (arith, lt, length-map ps (edge_from d)) in
          get_or-map (edge_from d) ps k z 0 less ∙ (ap (λ (i : ℕ). i + 1) (stands k less) ∙ (omega arith ∙ sym (get_or-range_with_len (b + 1) n k 0 less)))),
      ext_get_or 0 (map (edge_to d) ps) (leads_to b n) (length-map ps (edge_to d) ∙ sym (length_leads b n))
          (λ k lt. let less : k < n = omega (arith, lt, length-map ps (edge_to d)) in
          get_or-map (edge_to d) ps k z 0 less ∙ (ap (λ (i : ℕ). get_or (edges_after d) i 0) (stands k less)
          ∙ (elim (cases_lt (k + 1) n) [
            | inl more ↦ p.next k more ∙ sym (cond-true (nat_lt (k + 1) n) (b + (k + 1) + 1) (b + 1) (lt-ltb (k + 1) n more) ∙ omega arith)
            | inr none ↦ p.last k (omega arith) ∙ sym (cond-false (nat_lt (k + 1) n) (b + (k + 1) + 1) (b + 1) (le-ltb (k + 1) n none))
          ] ∙ sym (leads_at b n k less)))),
    )

-- the edges between which a column passes over a row
pub column_comes : (t : Table) (d : Diagram) (f : List ℕ) (at : Crossed) → IsQuandle t → IsGrid d → IsColouring t d f → Contains (crossings d) at
    → edge_colour (edge_colours t d f) (edge_from d (through true at)) ≡ get_or f at.column 0
column_comes t d f at q grid colouring h =
    let z : Passage = record { over = true; column = 0; row = 0 } in
    let x = of_crossings d at (has_contained (crossings d) at h) in
    let stands = stands_at d grid true at.column at.row x.0 x.1 in
    let i = place d (through true at) in
    let back : i + 1 - 1 ≡ i = omega arith in
    ap (λ (k : ℕ). get_or (edge_colours t d f) k 0) back ∙ (edge_at t d f i z stands.within ∙ ap (arriving t d f) (stands.stands z))

pub column_goes : (t : Table) (d : Diagram) (f : List ℕ) (at : Crossed) → IsQuandle t → IsGrid d → IsColouring t d f → Contains (crossings d) at
    → edge_colour (edge_colours t d f) (edge_to d (through true at)) ≡ get_or f at.column 0
column_goes t d f at q grid colouring h =
    let z : Passage = record { over = true; column = 0; row = 0 } in
    let x = of_crossings d at (has_contained (crossings d) at h) in
    let stands = stands_at d grid true at.column at.row x.0 x.1 in
    let i = place d (through true at) in
    turns_forth t d f grid q colouring i z stands.within
    ∙ (ap (passing t d f (get_or (edge_colours t d f) i 0)) (stands.stands z)
    ∙ (edge_at t d f i z stands.within ∙ ap (arriving t d f) (stands.stands z)))

-- a quarter turn
abbrev upward : Bool → Direction
upward up = record { x = pos 0; y = unit up }

abbrev rightward : Bool → Direction
rightward r = record { x = unit r; y = pos 0 }

-- a column and a row that run these ways cross positively
abbrev positive : Bool → Bool → Bool
positive up right = int_lt (pos 0) (cross_product (upward up) (rightward right))

-- an edge of the strand over or under lies in a direction
abbrev Towards : Bool → Bool → ℕ → ℕ → ℕ → ℕ → Direction → ℕ → Type 0
Towards up right over_to over_from under_to under_from v e =
    (((v ≡ upward up) × (e ≡ over_to)) ⊎ ((v ≡ opposite (upward up)) × (e ≡ over_from)))
    ⊎ (((v ≡ rightward right) × (e ≡ under_to)) ⊎ ((v ≡ opposite (rightward right)) × (e ≡ under_from)))

second_lies : (up right : Bool) (a b c e : ℕ) → Towards up right a b c e (turned_left (opposite (rightward right))) (if positive up right then a else b)
second_lies true true a b c e = inl (inr (refl, refl))
second_lies true false a b c e = inl (inl (refl, refl))
second_lies false true a b c e = inl (inl (refl, refl))
second_lies false false a b c e = inl (inr (refl, refl))

third_lies : (up right : Bool) (a b c e : ℕ) → Towards up right a b c e (turned_left (turned_left (opposite (rightward right)))) c
third_lies up true a b c e = inr (inl (refl, refl))
third_lies up false a b c e = inr (inl (refl, refl))

fourth_lies : (up right : Bool) (a b c e : ℕ)
    → Towards up right a b c e (turned_left (turned_left (turned_left (opposite (rightward right))))) (if positive up right then b else a)
fourth_lies true true a b c e = inl (inl (refl, refl))
fourth_lies true false a b c e = inl (inr (refl, refl))
fourth_lies false true a b c e = inl (inr (refl, refl))
fourth_lies false false a b c e = inl (inl (refl, refl))

pub counterclockwise : (d : Diagram) (at : Crossed) → AreCounterclockwise d at (opposite (row_direction d at.row)) (crossing d at)
counterclockwise d at =
    let up = is_up d at.column in
    let right = is_rightward d at.row in
    let a = edge_to d (through true at) in
    let b = edge_from d (through true at) in
    let c = edge_to d (through false at) in
    let e = edge_from d (through false at) in
    record {
      first = inr (inr (refl, refl));
      second = second_lies up right a b c e;
      third = third_lies up right a b c e;
      fourth = fourth_lies up right a b c e;
    }

-- the two passages of a crossing as they are printed, and the edges on which they come
pub printed_over : (d : Diagram) (at : Crossed)
    → (take 1 (passage_token d (through true at)) ≡ codes "O") × ((edge_from d (through true at) ≡ (crossing d at).second) ⊎ (edge_from d (through true at) ≡ (crossing d at).fourth))
printed_over d at = (refl, by (is_positive d at.column at.row) refl)
  where
    by : (t : Bool) → is_positive d at.column at.row ≡ t
        → (edge_from d (through true at) ≡ (crossing d at).second) ⊎ (edge_from d (through true at) ≡ (crossing d at).fourth)
    by true is = inr (sym (cond-true (is_positive d at.column at.row) (edge_from d (through true at)) (edge_to d (through true at)) is))
    by false is = inl (sym (cond-false (is_positive d at.column at.row) (edge_to d (through true at)) (edge_from d (through true at)) is))

pub printed_under : (d : Diagram) (at : Crossed)
    → (take 1 (passage_token d (through false at)) ≡ codes "U") × (edge_from d (through false at) ≡ (crossing d at).first)
printed_under d at = (refl, refl)
