-- The equations of a code at the crossings are those of following its strands.
use Rattle.std.proofs.Common.{◌≡◌, ◌<◌, ◌≤◌, ◌+◌, ◌-◌, ◌∙◌, ℕ, Bool, true, false, not, List, length, get_or, refl, sym, ap, arith, ◌==◌}
use Rattle.std.specs.Prelude.{if◌then◌else◌, pos, int_lt, nat_le}
use Rattle.std.proofs.lemmas.Bool.{eqb-true, eq-eqb, and_parts, and_from, le-leb}
use Rattle.grid_core.specs.Diagram.{Diagram, IsGrid, size}
use Rattle.grid_core.specs.Parts.{is_up, is_rightward}
use Rattle.grid_core.specs.Crossing.{unit, cross_product, is_positive}
use Rattle.quandle_core.specs.Quandle.{Table, IsQuandle, over, back}
use Rattle.crossing_codes.specs.declared.passages.Passage.{Passage}
use Rattle.crossing_codes.specs.declared.crossing.Crossing.{Crossing}
use Rattle.crossing_codes.specs.Passages.{through, passages}
use Rattle.crossing_codes.specs.Edges.{place, edge_from, edge_to, edges_after}
use Rattle.crossing_codes.specs.Code.{crossing}
use Rattle.crossing_codes.specs.CodeColouring.{edge_colour, agrees, is_edge, names_edges}
use Rattle.crossing_codes.specs.OnTheWay.{passing}
use Rattle.crossing_codes.proofs.Crossings.{cell, IsCrossing}
use Rattle.crossing_codes.proofs.AllPassages.{stands_at}
use Rattle.crossing_codes.proofs.Placed.{leads_within}

-- a crossing is positive where its column runs up and its row to the left, or the column down and the row to the right
pub positive_by : (up rightward : Bool)
    → int_lt (pos 0) (cross_product (record { x = pos 0; y = unit up }) (record { x = unit rightward; y = pos 0 })) ≡ (if up then not rightward else rightward)
positive_by true true = refl
positive_by true false = refl
positive_by false true = refl
positive_by false false = refl

pub positive_is : (d : Diagram) (c r : ℕ) → is_positive d c r ≡ (if is_up d c then not (is_rightward d r) else is_rightward d r)
positive_is d c r = positive_by (is_up d c) (is_rightward d r)

-- the colour after a passage, where e has the colours of the edges
abbrev pub after_colour : Diagram → List ℕ → ℕ → ℕ
after_colour d e i = edge_colour e (get_or (edges_after d) i 0)

-- colours e of the edges follow the strands under columns of colours f
abbrev pub Turns : Table → Diagram → List ℕ → List ℕ → Type 0
Turns t d f e = (i : ℕ) (z : Passage) → i < length (passages d) → after_colour d e i ≡ passing t d f (get_or e i 0) (get_or (passages d) i z)

-- what a strand of colour x becomes under one of colour y, by the direction of the column and of the row
abbrev pub goes : Table → Bool → Bool → ℕ → ℕ → ℕ
goes t up rightward x y = if rightward then (if up then back t x y else over t x y) else (if up then over t x y else back t x y)

-- by the sign of the crossing: z = x ▷ y where it is positive, else x = z ▷ y
abbrev pub meets : Table → Bool → ℕ → ℕ → ℕ → Bool
meets t positive x y z = if positive then z == over t x y else x == over t z y

pub meets_from : (t : Table) → IsQuandle t → (up rightward : Bool) (x y z : ℕ) → x < t.order → y < t.order → z ≡ goes t up rightward x y
    → meets t (if up then not rightward else rightward) x y z ≡ true
meets_from t q true true x y z hx hy e = eq-eqb x (over t z y) (sym (ap (λ w. over t w y) e ∙ q.over_back x y hx hy))
meets_from t q true false x y z hx hy e = eq-eqb z (over t x y) e
meets_from t q false true x y z hx hy e = eq-eqb z (over t x y) e
meets_from t q false false x y z hx hy e = eq-eqb x (over t z y) (sym (ap (λ w. over t w y) e ∙ q.over_back x y hx hy))

pub meets_to : (t : Table) → IsQuandle t → (up rightward : Bool) (x y z : ℕ) → z < t.order → y < t.order
    → meets t (if up then not rightward else rightward) x y z ≡ true → z ≡ goes t up rightward x y
meets_to t q true true x y z hz hy e = sym (ap (λ w. back t w y) (eqb-true x (over t z y) e) ∙ q.back_over z y hz hy)
meets_to t q true false x y z hz hy e = eqb-true z (over t x y) e
meets_to t q false true x y z hz hy e = eqb-true z (over t x y) e
meets_to t q false false x y z hz hy e = sym (ap (λ w. back t w y) (eqb-true x (over t z y) e) ∙ q.back_over z y hz hy)

-- a crossing, with its sign written apart
abbrev crossing_by : Diagram → ℕ → ℕ → Bool → Crossing
crossing_by d c r positive = record {
  first = edge_from d (through false (cell c r));
  second = if positive then edge_to d (through true (cell c r)) else edge_from d (through true (cell c r));
  third = edge_to d (through false (cell c r));
  fourth = if positive then edge_from d (through true (cell c r)) else edge_to d (through true (cell c r));
  positive = positive;
}

-- what a list of colours says at a crossing
pub record Says (t : Table) (d : Diagram) (e : List ℕ) (c r : ℕ) : Type 0 where
  pub over : after_colour d e (place d (through true (cell c r))) ≡ get_or e (place d (through true (cell c r))) 0
  pub under : meets t (is_positive d c r) (get_or e (place d (through false (cell c r))) 0) (get_or e (place d (through true (cell c r))) 0) (after_colour d e (place d (through false (cell c r)))) ≡ true

from_colour : (d : Diagram) (e : List ℕ) (i : ℕ) → edge_colour e (i + 1) ≡ get_or e i 0
from_colour d e i = let s : i + 1 - 1 ≡ i = omega arith in ap (λ k. get_or e k 0) s

agrees_from : (t : Table) (d : Diagram) (e : List ℕ) (c r : ℕ) (positive : Bool)
    → after_colour d e (place d (through true (cell c r))) ≡ get_or e (place d (through true (cell c r))) 0
    → meets t positive (get_or e (place d (through false (cell c r))) 0) (get_or e (place d (through true (cell c r))) 0) (after_colour d e (place d (through false (cell c r)))) ≡ true
    → agrees t e (crossing_by d c r positive) ≡ true
agrees_from t d e c r true above below =
    let o = place d (through true (cell c r)) in
    let u = place d (through false (cell c r)) in
    and_from (after_colour d e o == edge_colour e (o + 1)) (after_colour d e u == over t (edge_colour e (u + 1)) (after_colour d e o))
    (eq-eqb (after_colour d e o) (edge_colour e (o + 1)) (above ∙ sym (from_colour d e o)))
    (rw (from_colour d e u, above) below)
agrees_from t d e c r false above below =
    let o = place d (through true (cell c r)) in
    let u = place d (through false (cell c r)) in
    and_from (edge_colour e (o + 1) == after_colour d e o) (edge_colour e (u + 1) == over t (after_colour d e u) (edge_colour e (o + 1)))
    (eq-eqb (edge_colour e (o + 1)) (after_colour d e o) (from_colour d e o ∙ sym above))
    (rw (from_colour d e u, from_colour d e o) below)

agrees_to : (t : Table) (d : Diagram) (e : List ℕ) (c r : ℕ) (positive : Bool) → agrees t e (crossing_by d c r positive) ≡ true
    → (after_colour d e (place d (through true (cell c r))) ≡ get_or e (place d (through true (cell c r))) 0)
    × (meets t positive (get_or e (place d (through false (cell c r))) 0) (get_or e (place d (through true (cell c r))) 0)
    (after_colour d e (place d (through false (cell c r)))) ≡ true)
agrees_to t d e c r true h =
    let o = place d (through true (cell c r)) in
    let u = place d (through false (cell c r)) in
    let parts = and_parts (after_colour d e o == edge_colour e (o + 1)) (after_colour d e u == over t (edge_colour e (u + 1)) (after_colour d e o)) h in
    let above : after_colour d e o ≡ get_or e o 0 = eqb-true (after_colour d e o) (edge_colour e (o + 1)) parts.0 ∙ from_colour d e o in
    (above, rw (← above, ← from_colour d e u) parts.1)
agrees_to t d e c r false h =
    let o = place d (through true (cell c r)) in
    let u = place d (through false (cell c r)) in
    let parts = and_parts (edge_colour e (o + 1) == after_colour d e o) (edge_colour e (u + 1) == over t (after_colour d e u) (edge_colour e (o + 1))) h in
    let above : after_colour d e o ≡ get_or e o 0 = sym (eqb-true (edge_colour e (o + 1)) (after_colour d e o) parts.0) ∙ from_colour d e o in
    (above, rw (← from_colour d e o, ← from_colour d e u) parts.1)

pub says_agrees : (t : Table) (d : Diagram) (e : List ℕ) (c r : ℕ) → Says t d e c r → agrees t e (crossing d (cell c r)) ≡ true
says_agrees t d e c r says = agrees_from t d e c r (is_positive d c r) says.over says.under

pub agrees_says : (t : Table) (d : Diagram) (e : List ℕ) (c r : ℕ) → agrees t e (crossing d (cell c r)) ≡ true → Says t d e c r
agrees_says t d e c r h = let parts = agrees_to t d e c r (is_positive d c r) h in record { over = parts.0; under = parts.1 }

-- the edges of a crossing are the diagram's
is_edge_from : (n i : ℕ) → (1 ≤ i) × (i ≤ n) → is_edge n i ≡ true
is_edge_from n i within = and_from (nat_le 1 i) (nat_le i n) (le-leb 1 i within.0) (le-leb i n within.1)

names_by : (d : Diagram) (c r : ℕ) (positive : Bool) → is_edge (length (passages d)) (edge_from d (through false (cell c r))) ≡ true
    → is_edge (length (passages d)) (edge_to d (through false (cell c r))) ≡ true
    → is_edge (length (passages d)) (edge_from d (through true (cell c r))) ≡ true
    → is_edge (length (passages d)) (edge_to d (through true (cell c r))) ≡ true → names_edges (length (passages d)) (crossing_by d c r positive) ≡ true
names_by d c r true a b e f = rw (a, b, e, f) refl
names_by d c r false a b e f = rw (a, b, e, f) refl

pub crossing_names : (d : Diagram) → IsGrid d → (c r : ℕ) → r < size d → IsCrossing d c r → names_edges (length (passages d)) (crossing d (cell c r)) ≡ true
crossing_names d grid c r lt x =
    let above = stands_at d grid true c r lt x in
    let below = stands_at d grid false c r lt x in
    let n = length (passages d) in
    let at_over = above.within in
    let at_under = below.within in
    names_by d c r (is_positive d c r)
    (is_edge_from n (edge_from d (through false (cell c r))) (omega arith, omega arith))
    (is_edge_from n (edge_to d (through false (cell c r))) (leads_within d grid (place d (through false (cell c r))) below.within))
    (is_edge_from n (edge_from d (through true (cell c r))) (omega arith, omega arith))
    (is_edge_from n (edge_to d (through true (cell c r))) (leads_within d grid (place d (through true (cell c r))) above.within))
