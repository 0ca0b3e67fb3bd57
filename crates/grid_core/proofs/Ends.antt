-- The ends of a row, and the columns whose lower mark stands in it.
use Rattle.std.proofs.Common.{◌≡◌, ◌<◌, ◌≤◌, ◌-◌, ◌∙◌, ◌⊎◌, inl, inr, ℕ, Bool, true, false, cond, refl, sym, ap, subst, arith, min, max}
use Rattle.std.specs.Prelude.{nat_lt}
use Rattle.std.proofs.lemmas.Bool.{cases_lt, ltb-true, ltb-false, le-ltb, and_right}
use Rattle.std.proofs.lemmas.List.{get_or_past}
use Rattle.grid_core.specs.declared.mark.Kind.{Kind}
use Rattle.grid_core.specs.declared.mark.Kind.TheVariants.{Cross, Ring}
use Rattle.grid_core.specs.declared.span.Span.{Span}
use Rattle.grid_core.specs.Diagram.{Diagram, IsGrid, HasMark, size, rows_of, row_of}
use Rattle.grid_core.specs.Span.{span}
use Rattle.grid_core.specs.Parts.{column_of, column_span, covers, ends}
use Rattle.grid_core.proofs.Marks.{rows_length, row_below, column_mark, column_is, no_cell_twice}

-- the columns of a row's ends, and the rows of a column's marks
abbrev pub left : Diagram → ℕ → ℕ
left d r = (ends d r).low

abbrev pub right : Diagram → ℕ → ℕ
right d r = (ends d r).high

abbrev pub low : Diagram → ℕ → ℕ
low d c = (column_span d c).low

abbrev pub high : Diagram → ℕ → ℕ
high d c = (column_span d c).high

low_by : (a b : ℕ) (t : Bool) → nat_lt a b ≡ t → (span a b).low ≡ min a b
low_by a b true e =
    ap (λ (s : Bool). (cond {A = Span} s (record { low = a; high = b }) (record { low = b; high = a })).low) e ∙ (let lt = ltb-true a b e in omega arith)
low_by a b false e =
    ap (λ (s : Bool). (cond {A = Span} s (record { low = a; high = b }) (record { low = b; high = a })).low) e ∙ (let le = ltb-false a b e in omega arith)

high_by : (a b : ℕ) (t : Bool) → nat_lt a b ≡ t → (span a b).high ≡ max a b
high_by a b true e =
    ap (λ (s : Bool). (cond {A = Span} s (record { low = a; high = b }) (record { low = b; high = a })).high) e ∙ (let lt = ltb-true a b e in omega arith)
high_by a b false e =
    ap (λ (s : Bool). (cond {A = Span} s (record { low = a; high = b }) (record { low = b; high = a })).high) e ∙ (let le = ltb-false a b e in omega arith)

-- the ends of an interval are the lesser and the greater
pub span_low : (a b : ℕ) → (span a b).low ≡ min a b
span_low a b = low_by a b (nat_lt a b) refl

pub span_high : (a b : ℕ) → (span a b).high ≡ max a b
span_high a b = high_by a b (nat_lt a b) refl

-- what holds of both numbers holds of the ends of their interval
of_low : (P : ℕ → Type 0) (a b : ℕ) → P a → P b → P (span a b).low
of_low P a b at_a at_b = elim (cases_lt a b) [
  | inl lt ↦ subst P (let e = span_low a b in omega arith) at_a
  | inr le ↦ subst P (let e = span_low a b in omega arith) at_b
]

of_high : (P : ℕ → Type 0) (a b : ℕ) → P a → P b → P (span a b).high
of_high P a b at_a at_b = elim (cases_lt a b) [
  | inl lt ↦ subst P (let e = span_high a b in omega arith) at_b
  | inr le ↦ subst P (let e = span_high a b in omega arith) at_a
]

-- each of two numbers is an end of their interval, and the other way
end_of : (a b c : ℕ) → (c ≡ a) ⊎ (c ≡ b) → (c ≡ (span a b).low) ⊎ (c ≡ (span a b).high)
end_of a b c which =
    let l = span_low a b in
    let h = span_high a b in
    elim (cases_lt a b) [
      | inl lt ↦ elim which [ inl e ↦ inl (omega arith) | inr e ↦ inr (omega arith) ]
      | inr le ↦ elim which [ inl e ↦ inr (omega arith) | inr e ↦ inl (omega arith) ]
    ]

low_end : (a b r : ℕ) → (span a b).low ≡ r → (a ≡ r) ⊎ (b ≡ r)
low_end a b r e =
    let l = span_low a b in
    elim (cases_lt a b) [
      | inl lt ↦ inl (omega arith)
      | inr le ↦ inr (omega arith)
    ]

-- what is known of the ends of a row
pub record HasEnds (d : Diagram) (r : ℕ) : Type 0 where
  pub ordered : left d r < right d r
  pub within : right d r < size d
  pub left_low : low d (left d r) ≤ r
  pub right_low : low d (right d r) ≤ r
  -- a column whose lower mark stands in the row is one of its ends
  pub begun : (c : ℕ) → c < size d → low d c ≡ r → (c ≡ left d r) ⊎ (c ≡ right d r)

-- the two marks of a row stand in different columns
marks_apart : (d : Diagram) → IsGrid d → (r : ℕ) → r < size d → column_of Cross d r ≡ column_of Ring d r → ⊥
marks_apart d grid r lt e =
    let cross = column_mark d grid Cross r lt in
    let ring = column_mark d grid Ring r lt in
    no_cell_twice d grid (column_of Cross d r) cross.inside (cross.row ∙ (sym ring.row ∙ ap (row_of Ring d) (sym e)))

low_below : (d : Diagram) (kind : Kind) (c r : ℕ) → HasMark d kind c r → low d c ≤ r
low_below d Cross c r mark = omega (arith, mark.row, span_low (row_of Cross d c) (row_of Ring d c))
low_below d Ring c r mark = omega (arith, mark.row, span_low (row_of Cross d c) (row_of Ring d c))

pub has_ends : (d : Diagram) → IsGrid d → (r : ℕ) → r < size d → HasEnds d r
has_ends d grid r lt =
    let x = column_of Cross d r in
    let o = column_of Ring d r in
    let cross = column_mark d grid Cross r lt in
    let ring = column_mark d grid Ring r lt in
    let apart = marks_apart d grid r lt in
    record {
      ordered = omega (arith, apart, span_low x o, span_high x o);
      within = of_high (λ c. c < size d) x o cross.inside ring.inside;
      left_low = of_low (λ c. low d c ≤ r) x o (low_below d Cross x r cross) (low_below d Ring o r ring);
      right_low = of_high (λ c. low d c ≤ r) x o (low_below d Cross x r cross) (low_below d Ring o r ring);
      begun = λ c at begins. end_of x o c (elim (low_end (row_of Cross d c) (row_of Ring d c) r begins) [
        | inl e ↦ inl (sym (column_is d grid Cross c r (record { inside = at; row = e })))
        | inr e ↦ inr (sym (column_is d grid Ring c r (record { inside = at; row = e })))
      ]);
    }

-- no column covers the highest row
pub highest : (d : Diagram) (c : ℕ) → IsGrid d → covers d c (size d - 1) ≡ false
highest d c grid =
    and_right (nat_lt (low d c) (size d - 1)) (nat_lt (size d - 1) (high d c))
    (le-ltb (size d - 1) (high d c) (of_high (λ r. r ≤ size d - 1) (row_of Cross d c) (row_of Ring d c) (most Cross) (most Ring)))
  where
    most : (kind : Kind) → row_of kind d c ≤ size d - 1
    most kind = elim (cases_lt c (size d)) [
      | inl lt ↦ let below = row_below d grid kind c lt in omega arith
      | inr le ↦ let past = get_or_past (rows_of kind d) c 0 (omega (arith, le, rows_length d kind grid)) in omega (arith, past)
    ]
