-- The passages in their order: each crossing once over and once under.
use Rattle.std.proofs.Common.{◌≡◌, ◌<◌, ◌++◌, ◌∙◌, inl, inr, ℕ, Bool, true, false, List, length, map, get_or, refl, sym, ap, subst, arith, ◌==◌, ◌&&◌, not}
use Rattle.std.specs.List.Sorted.{IsPermutation}
use Rattle.std.proofs.lemmas.Bool.{eqb-true, eq-eqb, and_parts, and_from, false_from_ne_true, not-true}
use Rattle.std.proofs.lemmas.List.Sums.{position_or_len_is}
use Rattle.grid_core.specs.declared.mark.Kind.TheVariants.{Ring}
use Rattle.grid_core.specs.Diagram.{Diagram, IsGrid, size}
use Rattle.grid_core.specs.Parts.{column_of}
use Rattle.grid_core.proofs.Marks.{row_below, row_once, column_mark}
use Rattle.crossing_codes.specs.declared.passages.Passage.{Passage}
use Rattle.crossing_codes.specs.Components.{component, component_starts}
use Rattle.crossing_codes.specs.Passages.{Crossed, crossings, through, along, passages_from, passages}
use Rattle.crossing_codes.specs.Edges.{is_passage, place}
use Rattle.crossing_codes.proofs.Members.{Has, Apart, has_left, has_right, has_either, has_map, of_map, has_flat_map, of_flat_map}
use Rattle.crossing_codes.proofs.Members.{apart_append, apart_map, apart_flat_map, place_in, one_place, same_members}
use Rattle.crossing_codes.proofs.SharedColumns.{component_apart, member_below, start_of, start_below, one_start, starts_apart}
use Rattle.crossing_codes.proofs.Crossings.{cell, IsCrossing, column_inside, row_inside, has_over, has_under, which_along, along_apart}
use Rattle.crossing_codes.proofs.Crossings.{has_crossing, of_crossings, crossings_apart}

-- a passage lies along one column alone
owner : (d : Diagram) → IsGrid d → (b c : ℕ) (p : Passage) → b < size d → c < size d → Has (along d b) p → Has (along d c) p → b ≡ c
owner d grid b c p hb hc at_b at_c = elim (which_along d b p at_b) [
  | inl over ↦ elim (which_along d c p at_c) [
    | inl also ↦ sym over.column ∙ also.column
    | inr under ↦ absurd (let e : true ≡ false = sym over.over ∙ under.under in cc)
  ]
  | inr under ↦ elim (which_along d c p at_c) [
    | inl over ↦ absurd (let e : true ≡ false = sym over.over ∙ under.under in cc)
    | inr also ↦ row_once d grid Ring b c hb hc (under.row ∙ sym also.row)
  ]
]

pub round_apart : (d : Diagram) → IsGrid d → (s : ℕ) → s < size d → Apart (passages_from d s)
round_apart d grid s lt =
    apart_flat_map (along d) (component d s) (λ c h. along_apart d c)
    (λ b c p hb hc at_b at_c. owner d grid b c p (member_below d grid s b lt hb) (member_below d grid s c lt hc) at_b at_c)
    (component_apart d grid s lt)

pub passages_apart : (d : Diagram) → IsGrid d → Apart (passages d)
passages_apart d grid =
    apart_flat_map (passages_from d) (component_starts d) (λ s h. round_apart d grid s (start_below d s h))
    (λ s t p hs ht at_s at_t.
    let a = of_flat_map (along d) (component d s) p at_s in
    let b = of_flat_map (along d) (component d t) p at_t in
    let below_s = start_below d s hs in
    let below_t = start_below d t ht in
    let same = owner d grid a.0 b.0 p (member_below d grid s a.0 below_s a.1) (member_below d grid t b.0 below_t b.1) a.2 b.2 in
    one_start d grid s t a.0 hs ht a.1 (subst (λ z. Has (component d t) z) (sym same) b.1))
    (starts_apart d)

-- what lies along a column of the diagram is a passage
pub has_passage : (d : Diagram) → IsGrid d → (c : ℕ) (p : Passage) → c < size d → Has (along d c) p → Has (passages d) p
has_passage d grid c p lt h =
    let s = start_of d grid c lt in
    has_flat_map (passages_from d) (component_starts d) s.0 p s.1 (has_flat_map (along d) (component d s.0) c p s.2 h)

pub over_passes : (d : Diagram) → IsGrid d → (c r : ℕ) → r < size d → IsCrossing d c r → Has (passages d) (through true (cell c r))
over_passes d grid c r lt x = has_passage d grid c (through true (cell c r)) (column_inside d grid c r lt x) (has_over d c r x)

pub under_passes : (d : Diagram) → IsGrid d → (c r : ℕ) → r < size d → IsCrossing d c r → Has (passages d) (through false (cell c r))
under_passes d grid c r lt x =
    let mark = column_mark d grid Ring r lt in
    has_passage d grid (column_of Ring d r) (through false (cell c r)) mark.inside (has_under d (column_of Ring d r) c r mark.row x)

pub passes : (d : Diagram) → IsGrid d → (over : Bool) (c r : ℕ) → r < size d → IsCrossing d c r → Has (passages d) (through over (cell c r))
passes d grid true c r lt x = over_passes d grid c r lt x
passes d grid false c r lt x = under_passes d grid c r lt x

-- and each passage is at a crossing
pub passage_at : (d : Diagram) → IsGrid d → (p : Passage) → Has (passages d) p → (p.row < size d) × (p.column < size d) × IsCrossing d p.column p.row
passage_at d grid p h =
    let a = of_flat_map (passages_from d) (component_starts d) p h in
    let b = of_flat_map (along d) (component d a.0) p a.2 in
    let below = member_below d grid a.0 b.0 (start_below d a.0 a.1) b.1 in
    elim (which_along d b.0 p b.2) [
      | inl over ↦
          let column : p.column < size d = subst (λ z. z < size d) (sym over.column) below in
          (row_inside d grid p.column p.row column over.crossing, column, over.crossing)
      | inr under ↦
          let row : p.row < size d = subst (λ z. z < size d) under.row (row_below d grid Ring b.0 below) in
          (row, column_inside d grid p.column p.row row under.crossing, under.crossing)
    ]

-- the passages are those over and under at the crossings, each once
abbrev pub twice : Diagram → List Passage
twice d = map (through true) (crossings d) ++ map (through false) (crossings d)

has_twice : (d : Diagram) (over : Bool) (at : Crossed) → Has (crossings d) at → Has (twice d) (through over at)
has_twice d true at h =
    has_left (map (through true) (crossings d)) (map (through false) (crossings d)) (through true at) (has_map (through true) (crossings d) at h)
has_twice d false at h =
    has_right (map (through true) (crossings d)) (map (through false) (crossings d)) (through false at) (has_map (through false) (crossings d) at h)

of_twice : (d : Diagram) → IsGrid d → (p : Passage) → Has (twice d) p → Has (passages d) p
of_twice d grid p h = elim (has_either (map (through true) (crossings d)) (map (through false) (crossings d)) p h) [
  | inl over ↦
      let a = of_map (through true) (crossings d) p over in
      let x = of_crossings d a.0 a.1 in
      subst (λ z. Has (passages d) z) a.2 (over_passes d grid a.0.column a.0.row x.0 x.1)
  | inr under ↦
      let a = of_map (through false) (crossings d) p under in
      let x = of_crossings d a.0 a.1 in
      subst (λ z. Has (passages d) z) a.2 (under_passes d grid a.0.column a.0.row x.0 x.1)
]

same_cell : (a b : Crossed) → a.column ≡ b.column → a.row ≡ b.row → a ≡ b
same_cell a b column row = ap (λ c. cell c a.row) column ∙ ap (cell b.column) row

twice_apart : (d : Diagram) → Apart (twice d)
twice_apart d =
    apart_append (map (through true) (crossings d)) (map (through false) (crossings d))
    (apart_map (through true) (crossings d) (λ a b ha hb e. same_cell a b (ap (λ (p : Passage). p.column) e) (ap (λ (p : Passage). p.row) e))
    (crossings_apart d))
    (apart_map (through false) (crossings d) (λ a b ha hb e. same_cell a b (ap (λ (p : Passage). p.column) e) (ap (λ (p : Passage). p.row) e))
    (crossings_apart d))
    (λ p over under.
    let a = of_map (through true) (crossings d) p over in
    let b = of_map (through false) (crossings d) p under in
    let e : true ≡ false = ap (λ (q : Passage). q.over) (a.2 ∙ sym b.2) in cc)

pub each_twice : (d : Diagram) → IsGrid d → IsPermutation (passages d) (twice d)
each_twice d grid =
    same_members (passages d) (twice d) (passages_apart d grid) (twice_apart d)
    (λ p h. let x = passage_at d grid p h in has_twice d p.over (cell p.column p.row) (has_crossing d p.column p.row x.0 x.2))
    (λ p h. of_twice d grid p h)

-- the test for a passage passes at it alone
pub passage_itself : (over : Bool) (c r : ℕ) → is_passage (through over (cell c r)) (through over (cell c r)) ≡ true
passage_itself true c r = and_from (c == c) (r == r) (eq-eqb c c refl) (eq-eqb r r refl)
passage_itself false c r = and_from (c == c) (r == r) (eq-eqb c c refl) (eq-eqb r r refl)

passage_is : (over : Bool) (c r : ℕ) (p : Passage) → p.over ≡ over → p.column ≡ c → p.row ≡ r → p ≡ through over (cell c r)
passage_is over c r p eo ec er =
    ap (λ (o : Bool). let q : Passage = record { over = o; column = p.column; row = p.row } in q) eo
    ∙ (ap (λ (k : ℕ). let q : Passage = record { over = over; column = k; row = p.row } in q) ec
    ∙ ap (λ (s : ℕ). let q : Passage = record { over = over; column = c; row = s } in q) er)

pub only_passage : (over : Bool) (c r : ℕ) (p : Passage) → is_passage (through over (cell c r)) p ≡ true → p ≡ through over (cell c r)
only_passage true c r p e =
    let a = and_parts (p.over && (p.column == c)) (p.row == r) e in
    let b = and_parts p.over (p.column == c) a.0 in
    passage_is true c r p b.0 (eqb-true p.column c b.1) (eqb-true p.row r a.1)
only_passage false c r p e =
    let a = and_parts (not p.over && (p.column == c)) (p.row == r) e in
    let b = and_parts (not p.over) (p.column == c) a.0 in
    passage_is false c r p (not-true p.over b.0) (eqb-true p.column c b.1) (eqb-true p.row r a.1)

-- a place is that of the passage that stands there
pub place_is : (d : Diagram) → IsGrid d → (over : Bool) (c r i : ℕ) (z : Passage) → i < length (passages d)
    → get_or (passages d) i z ≡ through over (cell c r) → place d (through over (cell c r)) ≡ i
place_is d grid over c r i z lt is =
    position_or_len_is (is_passage (through over (cell c r))) (passages d) i z (omega arith)
    (λ k less. false_from_ne_true (is_passage (through over (cell c r)) (get_or (passages d) k z)) (λ e.
    let same = one_place (passages d) z k i (passages_apart d grid) (omega (arith, less, lt)) lt (only_passage over c r (get_or (passages d) k z) e ∙ sym is) in
    absurd (omega (arith, same, less))))
    (λ within. ap (is_passage (through over (cell c r))) is ∙ passage_itself over c r)

-- the passage stands there
pub record StandsAt (d : Diagram) (over : Bool) (c r : ℕ) : Type 0 where
  pub within : place d (through over (cell c r)) < length (passages d)
  pub stands : (z : Passage) → get_or (passages d) (place d (through over (cell c r))) z ≡ through over (cell c r)

pub stands_at : (d : Diagram) → IsGrid d → (over : Bool) (c r : ℕ) → r < size d → IsCrossing d c r → StandsAt d over c r
stands_at d grid over c r lt x =
    let at = place_in (passages d) (through over (cell c r)) (passes d grid over c r lt x) in
    let is : place d (through over (cell c r)) ≡ at.0 = place_is d grid over c r at.0 (through over (cell c r)) at.1 (at.2 (through over (cell c r))) in
    record {
      within = omega (arith, is, at.1);
      stands = λ z. ap (λ (i : ℕ). get_or (passages d) i z) is ∙ at.2 z;
    }
