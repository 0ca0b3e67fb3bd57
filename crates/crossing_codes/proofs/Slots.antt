-- Tables by passage: each passage has a slot of its own.
use Rattle.std.proofs.Common.{◌≡◌, ◌≢◌, ◌<◌, ◌≤◌, ◌+◌, ◌∙◌, inl, inr, ℕ, Bool, true, false, List, length, map, get_or, set, sym, ap, subst}
use Rattle.std.proofs.Common.{arith, get_or-set_same, get_or-set_other}
use Rattle.std.specs.Prelude.{if◌then◌else◌}
use Rattle.std.specs.List.{All, AllPairs, range_with_len}
use Rattle.std.proofs.lemmas.Bool.{cases_Bool, cases_order, cases_eq}
use Rattle.std.proofs.lemmas.List.{get_or_default, length-map}
use Rattle.std.proofs.lemmas.List.FromFn.{length-range_with_len}
use Rattle.grid_core.specs.Diagram.{Diagram, IsGrid}
use Rattle.grid_core.specs.declared.grid.TheConstants.{MAX_SIZE}
use Rattle.crossing_codes.specs.declared.layout.TheConstants.{MAX_CELLS}
use Rattle.crossing_codes.specs.declared.passages.Passage.{Passage}
use Rattle.crossing_codes.specs.Passages.{passages}
use Rattle.crossing_codes.specs.Layout.{cell_place, slot}
use Rattle.crossing_codes.specs.declared.edges.TheConstants.{MAX_SLOTS}
use Rattle.crossing_codes.proofs.Members.{Has, has_at, one_place, apart_map, of_map, has_range, fewer}
use Rattle.crossing_codes.proofs.AllPassages.{passages_apart, passage_at}

-- the passage is in a diagram
abbrev pub IsInside : Passage → Type 0
IsInside p = (p.column < MAX_SIZE) × (p.row < MAX_SIZE)

cell_below : (c r : ℕ) → c < MAX_SIZE → r < MAX_SIZE → cell_place c r < MAX_CELLS
cell_below c r hc hr = omega arith

cell_once : (b c r s : ℕ) → b < MAX_SIZE → c < MAX_SIZE → cell_place b r ≡ cell_place c s → (b ≡ c) × (r ≡ s)
cell_once b c r s hb hc e = elim (cases_order r s) [
  | inl same ↦ (omega arith, same)
  | inr other ↦ elim other [ inl less ↦ absurd (omega arith) | inr more ↦ absurd (omega arith) ]
]

slot_under : (p : Passage) → p.over ≡ false → slot p ≡ cell_place p.column p.row
slot_under p e = ap (λ b. if b then MAX_CELLS + cell_place p.column p.row else cell_place p.column p.row) e

slot_over : (p : Passage) → p.over ≡ true → slot p ≡ MAX_CELLS + cell_place p.column p.row
slot_over p e = ap (λ b. if b then MAX_CELLS + cell_place p.column p.row else cell_place p.column p.row) e

same_passage : (p q : Passage) → p.over ≡ q.over → p.column ≡ q.column → p.row ≡ q.row → p ≡ q
same_passage p q eo ec er =
    ap (λ (b : Bool). let w : Passage = record { over = b; column = p.column; row = p.row } in w) eo
    ∙ (ap (λ (k : ℕ). let w : Passage = record { over = q.over; column = k; row = p.row } in w) ec
    ∙ ap (λ (k : ℕ). let w : Passage = record { over = q.over; column = q.column; row = k } in w) er)

pub slot_once : (p q : Passage) → IsInside p → IsInside q → slot p ≡ slot q → p ≡ q
slot_once p q ip iq e =
    let below_p = cell_below p.column p.row ip.0 ip.1 in
    let below_q = cell_below q.column q.row iq.0 iq.1 in
    elim (cases_Bool p.over) [
      | inl po ↦ elim (cases_Bool q.over) [
        | inl qo ↦ let r = cell_once p.column q.column p.row q.row ip.0 iq.0 (let a = slot_over p po in let b = slot_over q qo in omega arith) in
            same_passage p q (po ∙ sym qo) r.0 r.1
        | inr qu ↦ absurd (let a = slot_over p po in let b = slot_under q qu in omega arith)
      ]
      | inr pu ↦ elim (cases_Bool q.over) [
        | inl qo ↦ absurd (let a = slot_under p pu in let b = slot_over q qo in omega arith)
        | inr qu ↦ let r = cell_once p.column q.column p.row q.row ip.0 iq.0 (let a = slot_under p pu in let b = slot_under q qu in omega arith) in
            same_passage p q (pu ∙ sym qu) r.0 r.1
      ]
    ]

-- the numbers of the first n passages stand in their slots
abbrev pub HasFirst : List Passage → List ℕ → ℕ → Type 0
HasFirst ps table n = (i : ℕ) (p : Passage) → i < n → get_or ps i p ≡ p → get_or table (slot p) 0 ≡ i

pub first_more : (ps : List Passage) (table : List ℕ) (n k : ℕ) (d : Passage) → All IsInside ps → AllPairs (λ p z. p ≢ z) ps → n < length ps
    → k < length table → k ≡ slot (get_or ps n d) → HasFirst ps table n → HasFirst ps (set table k n) (n + 1)
first_more ps table n k d inside apart lt room is so_far i p less at = elim (cases_eq i n) [
  | inl same ↦
      let one : p ≡ get_or ps n d = sym at ∙ (ap (λ (j : ℕ). get_or ps j p) same ∙ get_or_default ps n p d lt) in
      ap (λ (j : ℕ). get_or (set table k n) j 0) (ap slot one ∙ sym is) ∙ (get_or-set_same table k n 0 room ∙ sym same)
  | inr other ↦
      let before : i < n = omega arith in
      get_or-set_other table k (slot p) n 0 (λ e.
      let in_p : IsInside p = subst IsInside at (inside i p (omega arith)) in
      let one = slot_once p (get_or ps n d) in_p (inside n d lt) (e ∙ is) in
      apart i n p before lt (at ∙ (one ∙ get_or_default ps n d p lt)))
      ∙ so_far i p before at
]

-- all passages have slots
slot_below : (p : Passage) → IsInside p → slot p < MAX_SLOTS
slot_below p inside =
    let below = cell_below p.column p.row inside.0 inside.1 in
    elim (cases_Bool p.over) [ inl o ↦ (let e = slot_over p o in omega arith) | inr u ↦ (let e = slot_under p u in omega arith) ]

pub passage_inside : (d : Diagram) → IsGrid d → (p : Passage) → Has (passages d) p → IsInside p
passage_inside d grid p h = let at = passage_at d grid p h in let most = grid.most in let r = at.0 in let c = at.1 in (omega arith, omega arith)

pub passages_inside : (d : Diagram) → IsGrid d → All IsInside (passages d)
passages_inside d grid k z lt = passage_inside d grid (get_or (passages d) k z) (has_at (passages d) k z lt)

pub passages_differ : (d : Diagram) → IsGrid d → AllPairs (λ p z. p ≢ z) (passages d)
passages_differ d grid i j z less lt e = let same = one_place (passages d) z i j (passages_apart d grid) (omega arith) lt e in absurd (omega arith)

pub few_passages : (d : Diagram) → IsGrid d → length (passages d) ≤ MAX_SLOTS
few_passages d grid =
    let few = fewer (map slot (passages d)) (range_with_len 0 MAX_SLOTS)
    (apart_map slot (passages d) (λ p q hp hq e. slot_once p q (passage_inside d grid p hp) (passage_inside d grid q hq) e) (passages_apart d grid))
    (λ k h. let a = of_map slot (passages d) k h in
    let below = subst (λ j. j < MAX_SLOTS) a.2 (slot_below a.0 (passage_inside d grid a.0 a.1)) in
    has_range 0 MAX_SLOTS k (omega arith) (omega arith)) in
    omega (arith, few, length-map (passages d) slot, length-range_with_len 0 MAX_SLOTS)
