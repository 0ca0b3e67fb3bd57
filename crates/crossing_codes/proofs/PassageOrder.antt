-- In which order crossings stand, and in which a strand comes to them along a column and along a row.
use Rattle.std.proofs.Common.{◌≡◌, ◌<◌, ◌+◌, ◌-◌, ◌∙◌, ◌⊎◌, ◌↔◌, inl, inr, ℕ, Bool, true, false, List, map, reverse, refl, sym, ap, subst, arith}
use Rattle.std.specs.Prelude.{nat_lt, Contains, IsTrue}
use Rattle.std.specs.List.{range_with_len, AllPairs}
use Rattle.std.proofs.lemmas.Bool.{ltb-true, ltb-false, and_parts, and_from}
use Rattle.grid_core.specs.declared.mark.Kind.TheVariants.{Cross, Ring}
use Rattle.grid_core.specs.declared.span.Span.{Span}
use Rattle.grid_core.specs.Diagram.{Diagram, size, row_of}
use Rattle.grid_core.specs.Span.{span, lies_within, IsBetween}
use Rattle.grid_core.specs.Parts.{column_of, column_span, covers, ends, is_up, is_rightward}
use Rattle.grid_core.specs.Crossing.{crosses}
use Rattle.grid_core.proofs.Ends.{span_low, span_high}
use Rattle.colour_rows.specs.Walk.{passed}
use Rattle.crossing_codes.specs.declared.passages.Passage.{Passage}
use Rattle.crossing_codes.specs.Passages.{Crossed, crossings, as_met, passed_over, along_column, along_row}
use Rattle.crossing_codes.proofs.Members.{Has, has_map, of_map}
use Rattle.crossing_codes.proofs.Crossings.{cell, IsCrossing, between, of_between, crossing_in_row, crossing_in_column, in_row, in_column, has_met, of_met}
use Rattle.crossing_codes.proofs.Ordered.{Ordered, ordered_map, ordered_filter, ordered_range, ordered_reverse, ordered_flat_map, all_pairs}
use Rattle.crossing_codes.proofs.EdgeLaws.{has_contained, contained}

-- one number comes before another on the way from a to b
abbrev pub IsBefore : ℕ → ℕ → ℕ → ℕ → Type 0
IsBefore a b k l = IsBetween a l k × IsBetween k b l

rising : (p : ℕ → Bool) (s : Span) → Ordered (λ (k l : ℕ). k < l) (between p s)
rising p s = ordered_filter (λ (k l : ℕ). k < l) p (range_with_len (s.low + 1) (s.high - s.low - 1)) (ordered_range (s.low + 1) (s.high - s.low - 1))

inside : (p : ℕ → Bool) (s : Span) (k : ℕ) → Has (between p s) k → (s.low < k) × (k < s.high)
inside p s k h =
    let within = and_parts (nat_lt s.low k) (nat_lt k s.high) (of_between p s k h).0 in
    (ltb-true s.low k within.0, ltb-true k s.high within.1)

-- the numbers strictly between a and b that pass a test, as they are met on the way from a to b
met_in_order : (f : ℕ → Passage) (at : Passage → ℕ) (p : ℕ → Bool) (a b : ℕ) (s : Span) → ((k : ℕ) → at (f k) ≡ k)
    → s.low ≡ (span a b).low → s.high ≡ (span a b).high → (t : Bool) → nat_lt a b ≡ t
    → AllPairs (λ (x y : Passage). IsBefore a b (at x) (at y)) (map f (as_met t (between p s)))
met_in_order f at p a b s same low high true is =
    let l = span_low a b in
    let h = span_high a b in
    let lt = ltb-true a b is in
    all_pairs (λ (x y : Passage). IsBefore a b (at x) (at y)) (map f (between p s))
    (ordered_map (λ (k m : ℕ). k < m) (λ (x y : Passage). IsBefore a b (at x) (at y)) f (between p s)
    (λ k m hk hm less.
    let here = inside p s k hk in
    let there = inside p s m hm in
    let from = here.0 in
    let to = there.1 in
    subst (λ (u : ℕ). IsBefore a b u (at (f m))) (sym (same k)) (subst (λ (u : ℕ). IsBefore a b k u) (sym (same m))
    (inl (omega arith, less), inl (less, omega arith))))
    (rising p s))
met_in_order f at p a b s same low high false is =
    let l = span_low a b in
    let h = span_high a b in
    let le = ltb-false a b is in
    all_pairs (λ (x y : Passage). IsBefore a b (at x) (at y)) (map f (reverse (between p s)))
    (ordered_map (λ (k m : ℕ). m < k) (λ (x y : Passage). IsBefore a b (at x) (at y)) f (reverse (between p s))
    (λ k m hk hm less.
    let here = inside p s k (of_met false (between p s) k hk) in
    let there = inside p s m (of_met false (between p s) m hm) in
    let from = there.0 in
    let to = here.1 in
    subst (λ (u : ℕ). IsBefore a b u (at (f m))) (sym (same k)) (subst (λ (u : ℕ). IsBefore a b k u) (sym (same m))
    (inr (less, omega arith), inr (omega arith, less))))
    (ordered_reverse (λ (k m : ℕ). k < m) (between p s) (rising p s)))

pub column_in_order : (d : Diagram) (c : ℕ) → AllPairs (λ (p q : Passage). IsBefore (row_of Cross d c) (row_of Ring d c) p.row q.row) (along_column d c)
column_in_order d c =
    met_in_order (λ r. record { over = true; column = c; row = r }) (λ (p : Passage). p.row) (λ r. lies_within (ends d r) c)
    (row_of Cross d c) (row_of Ring d c) (column_span d c) (λ k. refl) refl refl (is_up d c) refl

pub row_in_order : (d : Diagram) (r : ℕ) → AllPairs (λ (p q : Passage). IsBefore (column_of Ring d r) (column_of Cross d r) p.column q.column) (along_row d r)
row_in_order d r =
    let x = column_of Cross d r in
    let o = column_of Ring d r in
    met_in_order (λ c. record { over = false; column = c; row = r }) (λ (p : Passage). p.column) (λ c. covers d c r)
    o x (ends d r) (λ k. refl) (span_low x o ∙ (let e = span_low o x in omega arith)) (span_high x o ∙ (let e = span_high o x in omega arith))
    (is_rightward d r) refl

-- and what is met there
crosses_from : (d : Diagram) (c r : ℕ) → IsCrossing d c r → IsTrue (crosses d c r)
crosses_from d c r x = and_from (covers d c r) (lies_within (ends d r) c) x.covered x.across

crosses_to : (d : Diagram) (c r : ℕ) → IsTrue (crosses d c r) → IsCrossing d c r
crosses_to d c r h = let both = and_parts (covers d c r) (lies_within (ends d r) c) h in record { covered = both.0; across = both.1 }

passage_parts : (p : Passage) (over : Bool) (c r : ℕ) → p.over ≡ over → p.column ≡ c → p.row ≡ r → record { over = over; column = c; row = r } ≡ p
passage_parts p over c r eo ec er =
    sym (ap (λ (o : Bool). let q : Passage = record { over = o; column = p.column; row = p.row } in q) eo
    ∙ (ap (λ (k : ℕ). let q : Passage = record { over = over; column = k; row = p.row } in q) ec
    ∙ ap (λ (s : ℕ). let q : Passage = record { over = over; column = c; row = s } in q) er))

pub met_on_column : (d : Diagram) (c : ℕ) (p : Passage)
    → Contains (along_column d c) p ↔ ((p.over ≡ true) × (p.column ≡ c) × IsTrue (crosses d c p.row))
met_on_column d c p = (
  λ h.
      let rows = as_met (is_up d c) (passed_over d c) in
      let r = of_map (λ k. record { over = true; column = c; row = k }) rows p (has_contained (along_column d c) p h) in
      let at = of_met (is_up d c) (passed_over d c) r.0 r.1 in
      subst (λ (q : Passage). (q.over ≡ true) × (q.column ≡ c) × IsTrue (crosses d c q.row)) r.2
      (refl, refl, crosses_from d c r.0 (crossing_in_column d c r.0 at)),
  λ h.
      let at = has_met (is_up d c) (passed_over d c) p.row (in_column d c p.row (crosses_to d c p.row h.2)) in
      contained (along_column d c) p
      (subst (λ q. Has (along_column d c) q) (passage_parts p true c p.row h.0 h.1 refl)
      (has_map (λ k. record { over = true; column = c; row = k }) (as_met (is_up d c) (passed_over d c)) p.row at)),
)

pub met_on_row : (d : Diagram) (r : ℕ) (p : Passage)
    → Contains (along_row d r) p ↔ ((p.over ≡ false) × (p.row ≡ r) × IsTrue (crosses d p.column r))
met_on_row d r p = (
  λ h.
      let columns = as_met (is_rightward d r) (passed d r) in
      let c = of_map (λ k. record { over = false; column = k; row = r }) columns p (has_contained (along_row d r) p h) in
      let at = of_met (is_rightward d r) (passed d r) c.0 c.1 in
      subst (λ (q : Passage). (q.over ≡ false) × (q.row ≡ r) × IsTrue (crosses d q.column r)) c.2
      (refl, refl, crosses_from d c.0 r (crossing_in_row d c.0 r at)),
  λ h.
      let at = has_met (is_rightward d r) (passed d r) p.column (in_row d p.column r (crosses_to d p.column r h.2)) in
      contained (along_row d r) p
      (subst (λ q. Has (along_row d r) q) (passage_parts p false p.column r h.0 refl h.1)
      (has_map (λ k. record { over = false; column = k; row = r }) (as_met (is_rightward d r) (passed d r)) p.column at)),
)

-- crossings stand by row, and in a row by column
abbrev pub ComesBefore : Crossed → Crossed → Type 0
ComesBefore a b = (a.row < b.row) ⊎ ((a.row ≡ b.row) × (a.column < b.column))

pub crossings_in_order : (d : Diagram) → AllPairs ComesBefore (crossings d)
crossings_in_order d =
    let row : ℕ → List Crossed = λ s. map (λ k. cell k s) (passed d s) in
    all_pairs ComesBefore (crossings d)
    (ordered_flat_map (λ (r s : ℕ). r < s) ComesBefore row (range_with_len 0 (size d))
    (λ s h. ordered_map (λ (k l : ℕ). k < l) ComesBefore (λ k. cell k s) (passed d s) (λ k l hk hl less. inr (refl, less))
    (rising (λ k. covers d k s) (ends d s)))
    (λ r s a b less ha hb.
    let x = of_map (λ k. cell k r) (passed d r) a ha in
    let y = of_map (λ k. cell k s) (passed d s) b hb in
    let at_x = ap (λ (z : Crossed). z.row) x.2 in
    let at_y = ap (λ (z : Crossed). z.row) y.2 in
    inl (omega arith))
    (ordered_range 0 (size d)))
