-- Crossings, and which passages lie along a column and the row of its O.
use Rattle.std.proofs.Common.{◌≡◌, ◌<◌, ◌+◌, ◌-◌, ◌∙◌, ◌⊎◌, inl, inr, ℕ, Bool, true, false, List, map, refl, sym, ap, subst, arith}
use Rattle.std.specs.Prelude.{nat_lt}
use Rattle.std.specs.List.{range_with_len, filter}
use Rattle.std.proofs.lemmas.Bool.{ltb-true, lt-ltb, and_parts, and_from}
use Rattle.grid_core.specs.declared.mark.Kind.TheVariants.{Cross, Ring}
use Rattle.grid_core.specs.declared.span.Span.{Span}
use Rattle.grid_core.specs.Diagram.{Diagram, IsGrid, size, row_of}
use Rattle.grid_core.specs.Span.{lies_within}
use Rattle.grid_core.specs.Parts.{column_span, covers, ends, is_up, is_rightward}
use Rattle.grid_core.proofs.Marks.{row_below}
use Rattle.colour_rows.specs.Walk.{passed}
use Rattle.grid_core.proofs.Ends.{has_ends, span_high}
use Rattle.crossing_codes.specs.declared.passages.Passage.{Passage}
use Rattle.crossing_codes.specs.Passages.{Crossed, crossings, through, passed_over, as_met, along_column, along_row, along}
use Rattle.crossing_codes.proofs.Members.{Has, Apart, has_left, has_right, has_either, has_map, of_map, has_filter, of_filter, has_flat_map}
use Rattle.crossing_codes.proofs.Members.{of_flat_map, has_range, of_range, has_reverse, of_reverse, apart_append, apart_map, apart_filter}
use Rattle.crossing_codes.proofs.Members.{apart_range, apart_reverse, apart_flat_map}

abbrev pub cell : ℕ → ℕ → Crossed
cell c r = record { column = c; row = r }

-- column c and row r cross
pub record IsCrossing (d : Diagram) (c r : ℕ) : Type 0 where
  pub covered : covers d c r ≡ true
  pub across : lies_within (ends d r) c ≡ true

-- numbers strictly within an interval that pass a test
abbrev pub between : (ℕ → Bool) → Span → List ℕ
between p s = filter p (range_with_len (s.low + 1) (s.high - s.low - 1))

pub has_between : (p : ℕ → Bool) (s : Span) (x : ℕ) → lies_within s x ≡ true → p x ≡ true → Has (between p s) x
has_between p s x within e =
    let parts = and_parts (nat_lt s.low x) (nat_lt x s.high) within in
    let least = ltb-true s.low x parts.0 in
    let most = ltb-true x s.high parts.1 in
    has_filter p (range_with_len (s.low + 1) (s.high - s.low - 1)) x (has_range (s.low + 1) (s.high - s.low - 1) x (omega arith) (omega arith)) e

pub of_between : (p : ℕ → Bool) (s : Span) (x : ℕ) → Has (between p s) x → (lies_within s x ≡ true) × (p x ≡ true)
of_between p s x h =
    let r = of_filter p (range_with_len (s.low + 1) (s.high - s.low - 1)) x h in
    let m = of_range (s.low + 1) (s.high - s.low - 1) x r.0 in
    (and_from (nat_lt s.low x) (nat_lt x s.high) (lt-ltb s.low x (omega arith)) (lt-ltb x s.high (omega arith)), r.1)

pub crossing_in_row : (d : Diagram) (c r : ℕ) → Has (passed d r) c → IsCrossing d c r
crossing_in_row d c r h = let b = of_between (λ k. covers d k r) (ends d r) c h in record { covered = b.1; across = b.0 }

pub in_row : (d : Diagram) (c r : ℕ) → IsCrossing d c r → Has (passed d r) c
in_row d c r x = has_between (λ k. covers d k r) (ends d r) c x.across x.covered

pub crossing_in_column : (d : Diagram) (c r : ℕ) → Has (passed_over d c) r → IsCrossing d c r
crossing_in_column d c r h = let b = of_between (λ k. lies_within (ends d k) c) (column_span d c) r h in record { covered = b.0; across = b.1 }

pub in_column : (d : Diagram) (c r : ℕ) → IsCrossing d c r → Has (passed_over d c) r
in_column d c r x = has_between (λ k. lies_within (ends d k) c) (column_span d c) r x.covered x.across

-- both lie in the diagram, where one of them does
pub column_inside : (d : Diagram) → IsGrid d → (c r : ℕ) → r < size d → IsCrossing d c r → c < size d
column_inside d grid c r lt x =
    let most = ltb-true c (ends d r).high (and_parts (nat_lt (ends d r).low c) (nat_lt c (ends d r).high) x.across).1 in
    let within = (has_ends d grid r lt).within in
    omega arith

pub row_inside : (d : Diagram) → IsGrid d → (c r : ℕ) → c < size d → IsCrossing d c r → r < size d
row_inside d grid c r lt x =
    let most = ltb-true r (column_span d c).high (and_parts (nat_lt (column_span d c).low r) (nat_lt r (column_span d c).high) x.covered).1 in
    let is = span_high (row_of Cross d c) (row_of Ring d c) in
    let cross = row_below d grid Cross c lt in
    let ring = row_below d grid Ring c lt in
    omega arith

pub has_met : (forward : Bool) (xs : List ℕ) (x : ℕ) → Has xs x → Has (as_met forward xs) x
has_met true xs x h = h
has_met false xs x h = has_reverse xs x h

pub of_met : (forward : Bool) (xs : List ℕ) (x : ℕ) → Has (as_met forward xs) x → Has xs x
of_met true xs x h = h
of_met false xs x h = of_reverse xs x h

met_apart : (forward : Bool) (xs : List ℕ) → Apart xs → Apart (as_met forward xs)
met_apart true xs a = a
met_apart false xs a = apart_reverse xs a

-- the passages of column c, and those of row r
pub has_over : (d : Diagram) (c r : ℕ) → IsCrossing d c r → Has (along d c) (through true (cell c r))
has_over d c r x =
    has_left (along_column d c) (along_row d (row_of Ring d c)) (through true (cell c r))
    (has_map (λ k. through true (cell c k)) (as_met (is_up d c) (passed_over d c)) r (has_met (is_up d c) (passed_over d c) r (in_column d c r x)))

pub has_under : (d : Diagram) (b c r : ℕ) → row_of Ring d b ≡ r → IsCrossing d c r → Has (along d b) (through false (cell c r))
has_under d b c r leads x =
    has_right (along_column d b) (along_row d (row_of Ring d b)) (through false (cell c r))
    (subst (λ s. Has (along_row d s) (through false (cell c r))) (sym leads)
    (has_map (λ k. through false (cell k r)) (as_met (is_rightward d r) (passed d r)) c (has_met (is_rightward d r) (passed d r) c (in_row d c r x))))

-- a passage along column b is one over it, or one under along the row of its O
pub record IsOver (d : Diagram) (b : ℕ) (p : Passage) : Type 0 where
  pub over : p.over ≡ true
  pub column : p.column ≡ b
  pub crossing : IsCrossing d p.column p.row

pub record IsUnder (d : Diagram) (b : ℕ) (p : Passage) : Type 0 where
  pub under : p.over ≡ false
  pub row : row_of Ring d b ≡ p.row
  pub crossing : IsCrossing d p.column p.row

pub over_along : (d : Diagram) (b : ℕ) (p : Passage) → Has (along_column d b) p → IsOver d b p
over_along d b p h =
    let r = of_map (λ k. through true (cell b k)) (as_met (is_up d b) (passed_over d b)) p h in
    subst (IsOver d b) r.2 (record { over = refl; column = refl; crossing = crossing_in_column d b r.0 (of_met (is_up d b) (passed_over d b) r.0 r.1) })

pub under_along : (d : Diagram) (b : ℕ) (p : Passage) → Has (along_row d (row_of Ring d b)) p → IsUnder d b p
under_along d b p h =
    let s = row_of Ring d b in
    let r = of_map (λ k. through false (cell k s)) (as_met (is_rightward d s) (passed d s)) p h in
    subst (IsUnder d b) r.2 (record { under = refl; row = refl; crossing = crossing_in_row d r.0 s (of_met (is_rightward d s) (passed d s) r.0 r.1) })

pub which_along : (d : Diagram) (b : ℕ) (p : Passage) → Has (along d b) p → IsOver d b p ⊎ IsUnder d b p
which_along d b p h = elim (has_either (along_column d b) (along_row d (row_of Ring d b)) p h) [
  | inl column ↦ inl (over_along d b p column)
  | inr row ↦ inr (under_along d b p row)
]

between_apart : (p : ℕ → Bool) (s : Span) → Apart (between p s)
between_apart p s = apart_filter p (range_with_len (s.low + 1) (s.high - s.low - 1)) (apart_range (s.low + 1) (s.high - s.low - 1))

pub along_apart : (d : Diagram) (b : ℕ) → Apart (along d b)
along_apart d b =
    let s = row_of Ring d b in
    apart_append (along_column d b) (along_row d s)
    (apart_map (λ k. through true (cell b k)) (as_met (is_up d b) (passed_over d b)) (λ i j hi hj e. ap (λ (p : Passage). p.row) e)
    (met_apart (is_up d b) (passed_over d b) (between_apart (λ k. lies_within (ends d k) b) (column_span d b))))
    (apart_map (λ k. through false (cell k s)) (as_met (is_rightward d s) (passed d s)) (λ i j hi hj e. ap (λ (p : Passage). p.column) e)
    (met_apart (is_rightward d s) (passed d s) (between_apart (λ k. covers d k s) (ends d s))))
    (λ p over under. let e : true ≡ false = sym (over_along d b p over).over ∙ (under_along d b p under).under in cc)

-- the list of all crossings
pub has_crossing : (d : Diagram) (c r : ℕ) → r < size d → IsCrossing d c r → Has (crossings d) (cell c r)
has_crossing d c r lt x =
    has_flat_map (λ s. map (λ k. cell k s) (passed d s)) (range_with_len 0 (size d)) r (cell c r) (has_range 0 (size d) r (omega arith) (omega arith))
    (has_map (λ k. cell k r) (passed d r) c (in_row d c r x))

pub of_crossings : (d : Diagram) (at : Crossed) → Has (crossings d) at → (at.row < size d) × IsCrossing d at.column at.row
of_crossings d at h =
    let r = of_flat_map (λ s. map (λ k. cell k s) (passed d s)) (range_with_len 0 (size d)) at h in
    let k = of_map (λ c. cell c r.0) (passed d r.0) at r.2 in
    let m = of_range 0 (size d) r.0 r.1 in
    subst (λ (z : Crossed). (z.row < size d) × IsCrossing d z.column z.row) k.2 (omega arith, crossing_in_row d k.0 r.0 k.1)

pub crossings_apart : (d : Diagram) → Apart (crossings d)
crossings_apart d =
    apart_flat_map (λ s. map (λ k. cell k s) (passed d s)) (range_with_len 0 (size d))
    (λ s h. apart_map (λ k. cell k s) (passed d s) (λ i j hi hj e. ap (λ (x : Crossed). x.column) e) (between_apart (λ k. covers d k s) (ends d s)))
    (λ r s at hr hs at_r at_s. let a = of_map (λ k. cell k r) (passed d r) at at_r in let b = of_map (λ k. cell k s) (passed d s) at at_s in ap
    (λ (x : Crossed). x.row) (a.2 ∙ sym b.2))
    (apart_range 0 (size d))
