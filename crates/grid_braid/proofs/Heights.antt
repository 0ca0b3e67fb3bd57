-- Where strands run: what a column's marks below a height tell.
use Rattle.std.proofs.Common.{◌≡◌, ◌≢◌, ◌<◌, ◌≤◌, ◌+◌, ◌∙◌, inl, inr, ◌&&◌, ℕ, Bool, true, false, not, cond, nat_lt, nat_le, arith, sym, ap, ap₂}
use Rattle.std.proofs.lemmas.Bool.{cases_lt, lt-ltb, le-ltb}
use Rattle.std.proofs.lemmas.Bool.Decides.{nat_tests}
use Rattle.grid_core.specs.declared.span.Span.{Span}
use Rattle.grid_core.specs.Span.{span, lies_within, crosses_height}

-- the strand test by the rows of the X and the O
abbrev pub runs : ℕ → ℕ → ℕ → Bool
runs x o h = cond (nat_lt x o) (crosses_height (span x o) h) (not (crosses_height (span x o) h))

span_up : (x o : ℕ) → x < o → span x o ≡ record { low = x; high = o }
span_up x o lt = ap (λ (b : Bool). cond {A = Span} b (record { low = x; high = o }) (record { low = o; high = x })) (lt-ltb x o lt)

span_down : (x o : ℕ) → o ≤ x → span x o ≡ record { low = o; high = x }
span_down x o le = ap (λ (b : Bool). cond {A = Span} b (record { low = x; high = o }) (record { low = o; high = x })) (le-ltb x o le)

pub runs_up : (x o h : ℕ) → x < o → runs x o h ≡ (nat_lt x h && nat_le h o)
runs_up x o h lt = ap₂ (λ (b : Bool) (s : Span). cond b (crosses_height s h) (not (crosses_height s h))) (lt-ltb x o lt) (span_up x o lt)

pub runs_down : (x o h : ℕ) → o ≤ x → runs x o h ≡ not (nat_lt o h && nat_le h x)
runs_down x o h le = ap₂ (λ (b : Bool) (s : Span). cond b (crosses_height s h) (not (crosses_height s h))) (le-ltb x o le) (span_down x o le)

-- a strand arrives at the O and leaves at the X
pub at_ring : (x o : ℕ) → x ≢ o → runs x o o ≡ true
at_ring x o ne = elim (cases_lt x o) [
  | inl lt ↦ runs_up x o o lt ∙ grind (arith, nat_tests)
  | inr le ↦ runs_down x o o le ∙ grind (arith, nat_tests)
]

pub above_ring : (x o : ℕ) → x ≢ o → runs x o (o + 1) ≡ false
above_ring x o ne = elim (cases_lt x o) [
  | inl lt ↦ runs_up x o (o + 1) lt ∙ grind (arith, nat_tests)
  | inr le ↦ runs_down x o (o + 1) le ∙ grind (arith, nat_tests)
]

pub at_cross : (x o : ℕ) → x ≢ o → runs x o x ≡ false
at_cross x o ne = elim (cases_lt x o) [
  | inl lt ↦ runs_up x o x lt ∙ grind (arith, nat_tests)
  | inr le ↦ runs_down x o x le ∙ grind (arith, nat_tests)
]

pub above_cross : (x o : ℕ) → x ≢ o → runs x o (x + 1) ≡ true
above_cross x o ne = elim (cases_lt x o) [
  | inl lt ↦ runs_up x o (x + 1) lt ∙ grind (arith, nat_tests)
  | inr le ↦ runs_down x o (x + 1) le ∙ grind (arith, nat_tests)
]

-- a row without a mark of the column changes nothing
pub runs_on : (x o r : ℕ) → x ≢ r → o ≢ r → runs x o (r + 1) ≡ runs x o r
runs_on x o r apart free = elim (cases_lt x o) [
  | inl lt ↦ runs_up x o (r + 1) lt ∙ (grind (arith, nat_tests) ∙ sym (runs_up x o r lt))
  | inr le ↦ runs_down x o (r + 1) le ∙ (grind (arith, nat_tests) ∙ sym (runs_down x o r le))
]

-- below and above all rows
pub runs_lowest : (x o : ℕ) → runs x o 0 ≡ not (nat_lt x o)
runs_lowest x o = elim (cases_lt x o) [
  | inl lt ↦ runs_up x o 0 lt ∙ grind (arith, nat_tests)
  | inr le ↦ runs_down x o 0 le ∙ grind (arith, nat_tests)
]

pub runs_highest : (x o n : ℕ) → x < n → o < n → runs x o n ≡ not (nat_lt x o)
runs_highest x o n x_in o_in = elim (cases_lt x o) [
  | inl lt ↦ runs_up x o n lt ∙ grind (arith, nat_tests)
  | inr le ↦ runs_down x o n le ∙ grind (arith, nat_tests)
]

-- at a row without a mark of the column: a strand where an up column covers the row or a down column does not
pub runs_covers_up : (x o r : ℕ) → x < o → x ≢ r → o ≢ r → runs x o r ≡ lies_within (span x o) r
runs_covers_up x o r lt apart free =
    runs_up x o r lt ∙ (grind (arith, nat_tests) ∙ ap (λ (s : Span). lies_within s r) (sym (span_up x o lt)))

pub runs_covers_down : (x o r : ℕ) → o ≤ x → x ≢ r → o ≢ r → runs x o r ≡ not (lies_within (span x o) r)
runs_covers_down x o r le apart free =
    runs_down x o r le ∙ (grind (arith, nat_tests) ∙ ap (λ (s : Span). not (lies_within s r)) (sym (span_down x o le)))
