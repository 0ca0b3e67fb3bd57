-- The two sums: the directions in which a component crosses a line across the page, or a line up the page, add to 0.
use Rattle.std.proofs.Common.{◌≡◌, ◌≢◌, ◌<◌, ◌≤◌, ◌∙◌, ◌==◌, ℕ, ℤ, pos, arith, sym, refl, ap, ap₂, inl, inr, map}
use Rattle.std.specs.Prelude.{Bool, true, false, nat_lt, nat_le, ◌&&◌, ◌-ℤ◌}
use Rattle.std.specs.List.{range_with_len, filter}
use Rattle.std.proofs.lemmas.Int.{ints}
use Rattle.std.proofs.lemmas.Bool.{cases_lt, lt-ltb, le-ltb, le-leb, lt-leb, eqb-true}
use Rattle.grid_core.specs.declared.span.Span.{Span}
use Rattle.grid_core.specs.declared.mark.Kind.TheVariants.{Cross, Ring}
use Rattle.grid_core.specs.Diagram.{Diagram, IsGrid, size, row_of}
use Rattle.grid_core.specs.Span.{lies_within, crosses_height}
use Rattle.grid_core.specs.Parts.{column_of, column_span, ends, is_up, is_rightward}
use Rattle.linking_core.specs.Component.{component_number, row_component_number}
use Rattle.grid_core.specs.Crossing.{unit}
use Rattle.linking_core.specs.Linking.{sum_of}
use Rattle.linking_core.specs.Intersections.{intersections_with_height, intersections_with_column, intersections_between_columns}
use Rattle.linking_core.proofs.Spans.{AreEnds, span_ends}
use Rattle.linking_core.proofs.Sums.{total, where_true, total_same, over_filter, over_difference, sum_of_map}
use Rattle.linking_core.proofs.Forms.{count, by_marks, where_difference}
use Rattle.linking_core.proofs.Balance.{balanced}
use Rattle.linking_core.proofs.ComponentNumbers.{row_component_is}
use Rattle.linking_core.proofs.Signs.{is_of}
use Rattle.linking_core.proofs.Steps.{closed}

none : (t : Bool) (z : ℤ) → where_true (t && false) z ≡ pos 0
none true z = refl
none false z = refl

-- an interval whose ends are x and o reaches across a line where just one of them lies below
reach_from : (x o l h line : ℕ) → l ≡ x → h ≡ o → l ≤ h → (up : Bool) → (x < o → up ≡ true)
    → where_true (nat_lt l line && nat_le line h) (unit up) ≡ count (nat_lt x line) -ℤ count (nat_lt o line)
reach_from x o l h line is_l is_h le up rises = elim (cases_lt x line) [
  | inl lx ↦ elim (cases_lt o line) [
    | inl lo ↦ ap (λ (t : Bool). where_true (nat_lt l line && t) (unit up)) (lt-leb line h (omega arith))
        ∙ (none (nat_lt l line) (unit up) ∙ sym (ap₂ (λ (s t : Bool). count s -ℤ count t) (lt-ltb x line lx) (lt-ltb o line lo)))
    | inr go ↦ ap₂ (λ (s t : Bool). where_true (s && t) (unit up)) (lt-ltb l line (omega arith)) (le-leb line h (omega arith))
        ∙ (ap unit (rises (omega arith)) ∙ sym (ap₂ (λ (s t : Bool). count s -ℤ count t) (lt-ltb x line lx) (le-ltb o line go)))
  ]
  | inr gx ↦ ap (λ (t : Bool). where_true (t && nat_le line h) (unit up)) (le-ltb l line (omega arith))
      ∙ sym (ap₂ (λ (s t : Bool). count s -ℤ count t) (le-ltb x line gx) (le-ltb o line (omega arith)))
]

-- the same from above
fall_from : (x o l h line : ℕ) → l ≡ o → h ≡ x → l ≤ h → (up : Bool) → (o < x → up ≡ false)
    → where_true (nat_lt l line && nat_le line h) (unit up) ≡ count (nat_lt x line) -ℤ count (nat_lt o line)
fall_from x o l h line is_l is_h le up falls = elim (cases_lt o line) [
  | inl lo ↦ elim (cases_lt x line) [
    | inl lx ↦ ap (λ (t : Bool). where_true (nat_lt l line && t) (unit up)) (lt-leb line h (omega arith))
        ∙ (none (nat_lt l line) (unit up) ∙ sym (ap₂ (λ (s t : Bool). count s -ℤ count t) (lt-ltb x line lx) (lt-ltb o line lo)))
    | inr gx ↦ ap₂ (λ (s t : Bool). where_true (s && t) (unit up)) (lt-ltb l line (omega arith)) (le-leb line h (omega arith))
        ∙ (ap unit (falls (omega arith)) ∙ sym (ap₂ (λ (s t : Bool). count s -ℤ count t) (le-ltb x line gx) (lt-ltb o line lo)))
  ]
  | inr go ↦ ap (λ (t : Bool). where_true (t && nat_le line h) (unit up)) (le-ltb l line (omega arith))
      ∙ sym (ap₂ (λ (s t : Bool). count s -ℤ count t) (le-ltb x line (omega arith)) (le-ltb o line go))
]

-- a strand from mark x to mark o across a line
reach : (x o l h line : ℕ) → AreEnds x o l h → where_true (nat_lt l line && nat_le line h) (unit (nat_lt x o)) ≡ count (nat_lt x line) -ℤ count (nat_lt o line)
reach x o l h line are = elim are.either [
  | inl is ↦ reach_from x o l h line is.0 is.1 are.le (nat_lt x o) (λ lt. lt-ltb x o lt)
  | inr is ↦ fall_from x o l h line is.0 is.1 are.le (nat_lt x o) (λ lt. le-ltb x o (omega arith))
]

turned : (x o l h : ℕ) → AreEnds x o l h → AreEnds o x l h
turned x o l h are = record { either = elim are.either [ inl is ↦ inr (is.0, is.1) | inr is ↦ inl (is.0, is.1) ]; le = are.le }

under : (t u : Bool) (y z : ℤ) → (t ≡ true → where_true u y ≡ z) → where_true (t && u) y ≡ where_true t z
under true u y z same = same refl
under false u y z same = refl

pub heights_cancel : (d : Diagram) (i h : ℕ) → IsGrid d → sum_of (intersections_with_height d i h) ≡ pos 0
heights_cancel d i h grid =
    sum_of_map (λ c. unit (is_up d c)) (filter (λ c. is_of d i c && crosses_height (column_span d c) h) (range_with_len 0 (size d)))
    ∙ (over_filter (λ c. unit (is_up d c)) (λ c. is_of d i c && crosses_height (column_span d c) h) (range_with_len 0 (size d))
    ∙ (total_same (size d) (λ c. where_true (is_of d i c && crosses_height (column_span d c) h) (unit (is_up d c)))
    (λ c. where_true (is_of d i c) (count (nat_lt (row_of Cross d c) h) -ℤ count (nat_lt (row_of Ring d c) h))) (λ c lt.
    under (is_of d i c) (crosses_height (column_span d c) h) (unit (is_up d c)) (count (nat_lt (row_of Cross d c) h) -ℤ count (nat_lt (row_of Ring d c) h))
    (λ t.
    reach (row_of Cross d c) (row_of Ring d c) (column_span d c).low (column_span d c).high h (span_ends (row_of Cross d c) (row_of Ring d c))))
    ∙ balanced d grid (is_of d i) (closed d grid i) (λ s. count (nat_lt s h))))

-- along the rows of a component, what depends on the column of a mark counts as much at the Os as at the Xs
rows_balanced : (d : Diagram) → IsGrid d → (j : ℕ) (g : ℕ → ℤ)
    → total (size d) (λ r. where_true (row_component_number d r == j) (g (column_of Ring d r) -ℤ g (column_of Cross d r))) ≡ pos 0
rows_balanced d grid j g =
    let parts = total_same (size d) (λ r. where_true (row_component_number d r == j) (g (column_of Ring d r) -ℤ g (column_of Cross d r)))
    (λ r. where_true (is_of d j (column_of Ring d r)) (g (column_of Ring d r)) -ℤ where_true (is_of d j (column_of Cross d r)) (g (column_of Cross d r)))
    (λ r lt.
    let own = row_component_is d grid r lt in
    where_difference (row_component_number d r == j) (g (column_of Ring d r)) (g (column_of Cross d r))
    ∙ ap₂ (λ (k m : ℕ). where_true (k == j) (g (column_of Ring d r)) -ℤ where_true (m == j) (g (column_of Cross d r))) own.1 own.0) in
    let split = over_difference (λ r. where_true (is_of d j (column_of Ring d r)) (g (column_of Ring d r)))
    (λ r. where_true (is_of d j (column_of Cross d r)) (g (column_of Cross d r))) (range_with_len 0 (size d)) in
    let rings = by_marks d grid Ring (λ c r. where_true (is_of d j c) (g c)) in
    let crosses = by_marks d grid Cross (λ c r. where_true (is_of d j c) (g c)) in
    omega (arith, ints, parts, split, rings, crosses)

-- the rows of a component that pass a test, where the test finds those with just one mark before the line
lines_cancel : (d : Diagram) → IsGrid d → (j v : ℕ) (test : ℕ → Bool)
    → ((r : ℕ) → r < size d → row_component_number d r ≡ j → where_true (test r) (unit (is_rightward d r))
    ≡ count (nat_lt (column_of Ring d r) v) -ℤ count (nat_lt (column_of Cross d r) v))
    → sum_of (map (λ r. unit (is_rightward d r)) (filter (λ r. (row_component_number d r == j) && test r) (range_with_len 0 (size d)))) ≡ pos 0
lines_cancel d grid j v test found =
    sum_of_map (λ r. unit (is_rightward d r)) (filter (λ r. (row_component_number d r == j) && test r) (range_with_len 0 (size d)))
    ∙ (over_filter (λ r. unit (is_rightward d r)) (λ r. (row_component_number d r == j) && test r) (range_with_len 0 (size d))
    ∙ (total_same (size d) (λ r. where_true ((row_component_number d r == j) && test r) (unit (is_rightward d r)))
    (λ r. where_true (row_component_number d r == j) (count (nat_lt (column_of Ring d r) v) -ℤ count (nat_lt (column_of Cross d r) v))) (λ r lt.
    under (row_component_number d r == j) (test r) (unit (is_rightward d r)) (count (nat_lt (column_of Ring d r) v) -ℤ count (nat_lt (column_of Cross d r) v))
    (λ t. found r lt (eqb-true (row_component_number d r) j t)))
    ∙ rows_balanced d grid j (λ c. count (nat_lt c v))))

pub between_cancel : (d : Diagram) (j v : ℕ) → IsGrid d → sum_of (intersections_between_columns d j v) ≡ pos 0
between_cancel d j v grid = lines_cancel d grid j v (λ r. crosses_height (ends d r) v) (λ r lt of_row.
    reach (column_of Ring d r) (column_of Cross d r) (ends d r).low (ends d r).high v
    (turned (column_of Cross d r) (column_of Ring d r) (ends d r).low (ends d r).high (span_ends (column_of Cross d r) (column_of Ring d r))))

-- strictly between the ends, for a column that is none of them
within_reach : (s : Span) (v : ℕ) → v ≢ s.high → lies_within s v ≡ crosses_height s v
within_reach s v ne = ap (λ (t : Bool). nat_lt s.low v && t) (elim (cases_lt v s.high) [
  | inl lt ↦ lt-ltb v s.high lt ∙ sym (le-leb v s.high (omega arith))
  | inr le ↦ le-ltb v s.high le ∙ sym (lt-leb v s.high (omega (arith, ne)))
])

pub columns_cancel : (d : Diagram) (j v : ℕ) → IsGrid d → v < size d → component_number d v ≢ j → sum_of (intersections_with_column d j v) ≡ pos 0
columns_cancel d j v grid in_v ne = lines_cancel d grid j v (λ r. lies_within (ends d r) v) (λ r lt of_row.
    ap (λ (t : Bool). where_true t (unit (is_rightward d r))) (within_reach (ends d r) v (away r lt of_row))
    ∙ reach (column_of Ring d r) (column_of Cross d r) (ends d r).low (ends d r).high v
    (turned (column_of Cross d r) (column_of Ring d r) (ends d r).low (ends d r).high (span_ends (column_of Cross d r) (column_of Ring d r))))
  where
    away : (r : ℕ) → r < size d → row_component_number d r ≡ j → v ≢ (ends d r).high
    away r lt of_row e =
        let own = row_component_is d grid r lt in
        elim (span_ends (column_of Cross d r) (column_of Ring d r)).either [
          | inl is ↦ ne (ap (component_number d) (e ∙ is.1) ∙ (sym own.1 ∙ of_row))
          | inr is ↦ ne (ap (component_number d) (e ∙ is.1) ∙ (sym own.0 ∙ of_row))
        ]
