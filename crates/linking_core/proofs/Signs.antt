-- A linking number as the sum by crossings of two classes of columns.
use Rattle.std.proofs.Common.{◌≡◌, ◌≢◌, ◌<◌, ◌≤◌, ◌∙◌, ◌==◌, ℕ, ℤ, pos, arith, sym, refl, ap, ap₂, inl, inr}
use Rattle.std.specs.Prelude.{Bool, true, false, not, nat_lt, ◌&&◌, ◌-ℤ◌}
use Rattle.std.specs.List.{range_with_len, filter}
use Rattle.std.proofs.lemmas.Bool.{cases_lt, lt-ltb, le-ltb, ltb-true, ltb-false, eqb-true}
use Rattle.grid_core.specs.declared.mark.Kind.TheVariants.{Cross, Ring}
use Rattle.grid_core.specs.Diagram.{Diagram, IsGrid, size, row_of}
use Rattle.grid_core.specs.Span.{span, lies_within}
use Rattle.grid_core.specs.Parts.{column_of, is_up, is_rightward}
use Rattle.grid_core.proofs.Marks.{column_is}
use Rattle.linking_core.specs.Component.{component_number, row_component_number}
use Rattle.grid_core.specs.Crossing.{crosses, sign, unit, cross_product}
use Rattle.linking_core.specs.Linking.{sum_of, signs_of_row, linking_number}
use Rattle.linking_core.proofs.Spans.{span_ends}
use Rattle.linking_core.proofs.Sums.{total, where_true, total_same, over_where, over_filter, sum_of_map, sum_of_flat_map}
use Rattle.linking_core.proofs.Forms.{count, passing, has_row, by_crossings}
use Rattle.linking_core.proofs.ComponentNumbers.{row_component_is}

-- exactly one of two
abbrev one_of : Bool → Bool → Bool
one_of true b = not b
one_of false b = b

-- whether s lies between two numbers, and which of the two is then the lesser
record LiesBetween (a b s : ℕ) : Type 0 where
  within : lies_within (span a b) s ≡ one_of (nat_lt a s) (nat_lt b s)
  rises : nat_lt a s ≡ true → nat_lt b s ≡ false → nat_lt a b ≡ true
  falls : nat_lt a s ≡ false → nat_lt b s ≡ true → nat_lt a b ≡ false

within_by_low : (a b s l h : ℕ) → l ≡ a → h ≡ b → l ≤ h → s ≢ a → s ≢ b → (nat_lt l s && nat_lt s h) ≡ one_of (nat_lt a s) (nat_lt b s)
within_by_low a b s l h is_l is_h le na nb = elim (cases_lt a s) [
  | inl la ↦ elim (cases_lt b s) [
    | inl lb ↦ ap₂ (λ t u. t && u) (lt-ltb l s (omega arith)) (le-ltb s h (omega arith)) ∙ sym (ap₂ one_of (lt-ltb a s la) (lt-ltb b s lb))
    | inr gb ↦ ap₂ (λ t u. t && u) (lt-ltb l s (omega arith)) (lt-ltb s h (omega (arith, nb))) ∙ sym (ap₂ one_of (lt-ltb a s la) (le-ltb b s gb))
  ]
  | inr ga ↦ elim (cases_lt b s) [
    | inl lb ↦ absurd (omega (arith, na))
    | inr gb ↦ ap (λ t. t && nat_lt s h) (le-ltb l s (omega arith)) ∙ sym (ap₂ one_of (le-ltb a s ga) (le-ltb b s gb))
  ]
]

one_of_comm : (t u : Bool) → one_of t u ≡ one_of u t
one_of_comm true true = refl
one_of_comm true false = refl
one_of_comm false true = refl
one_of_comm false false = refl

lies_between : (a b s : ℕ) → s ≢ a → s ≢ b → LiesBetween a b s
lies_between a b s na nb = record {
  within = elim (span_ends a b).either [
    | inl is ↦ within_by_low a b s (span a b).low (span a b).high is.0 is.1 (span_ends a b).le na nb
    | inr is ↦ within_by_low b a s (span a b).low (span a b).high is.0 is.1 (span_ends a b).le nb na ∙ one_of_comm (nat_lt b s) (nat_lt a s)
  ];
  rises = λ l h. let la = ltb-true a s l in let gb = ltb-false b s h in lt-ltb a b (omega (arith, la, gb));
  falls = λ l h. let ga = ltb-false a s l in let lb = ltb-true b s h in le-ltb a b (omega (arith, ga, lb));
}

-- the sign where a column with marks x, o on this side crosses a row with marks l, m on this side
signed : (x o l m up right : Bool) → (x ≡ true → o ≡ false → up ≡ true) → (x ≡ false → o ≡ true → up ≡ false) → (m ≡ true → l ≡ false → right ≡ true)
    → (m ≡ false → l ≡ true → right ≡ false)
    → where_true (one_of x o && one_of l m) (cross_product (record { x = pos 0; y = unit up }) (record { x = unit right; y = pos 0 }))
    ≡ where_true l (count x -ℤ count o) -ℤ where_true m (count x -ℤ count o)
signed true true true true up right rises falls goes comes = refl
signed true true true false up right rises falls goes comes = refl
signed true true false true up right rises falls goes comes = refl
signed true true false false up right rises falls goes comes = refl
signed true false true true up right rises falls goes comes = refl
signed true false true false up right rises falls goes comes =
    ap₂ (λ u v. cross_product (record { x = pos 0; y = unit u }) (record { x = unit v; y = pos 0 })) (rises refl refl) (comes refl refl)
signed true false false true up right rises falls goes comes =
    ap₂ (λ u v. cross_product (record { x = pos 0; y = unit u }) (record { x = unit v; y = pos 0 })) (rises refl refl) (goes refl refl)
signed true false false false up right rises falls goes comes = refl
signed false true true true up right rises falls goes comes = refl
signed false true true false up right rises falls goes comes =
    ap₂ (λ u v. cross_product (record { x = pos 0; y = unit u }) (record { x = unit v; y = pos 0 })) (falls refl refl) (comes refl refl)
signed false true false true up right rises falls goes comes =
    ap₂ (λ u v. cross_product (record { x = pos 0; y = unit u }) (record { x = unit v; y = pos 0 })) (falls refl refl) (goes refl refl)
signed false true false false up right rises falls goes comes = refl
signed false false true true up right rises falls goes comes = refl
signed false false true false up right rises falls goes comes = refl
signed false false false true up right rises falls goes comes = refl
signed false false false false up right rises falls goes comes = refl

-- a column over a row in which it has no mark
sign_by_marks : (d : Diagram) → IsGrid d → (c r : ℕ) → c < size d → r < size d → c ≢ column_of Cross d r → c ≢ column_of Ring d r
    → where_true (crosses d c r) (sign d c r) ≡ passing d c r
sign_by_marks d grid c r in_c in_r not_cross not_ring =
    let column = lies_between (row_of Cross d c) (row_of Ring d c) r (λ e. not_cross (sym (column_is d grid Cross c r (record { inside = in_c; row = sym e }))))
    (λ e. not_ring (sym (column_is d grid Ring c r (record { inside = in_c; row = sym e })))) in
    let row = lies_between (column_of Cross d r) (column_of Ring d r) c not_cross not_ring in
    let back = lies_between (column_of Ring d r) (column_of Cross d r) c not_ring not_cross in
    ap₂ (λ t u. where_true (t && u) (sign d c r)) column.within row.within
    ∙ signed (nat_lt (row_of Cross d c) r) (nat_lt (row_of Ring d c) r) (nat_lt (column_of Cross d r) c) (nat_lt (column_of Ring d r) c) (is_up d c)
    (is_rightward d r)
    column.rises column.falls back.rises back.falls

-- the class of a component
abbrev pub is_of : Diagram → ℕ → ℕ → Bool
is_of d i c = component_number d c == i

under_both : (t u x : Bool) (y z : ℤ) → (t ≡ true → u ≡ true → where_true x y ≡ z) → where_true t (where_true (u && x) y) ≡ where_true (t && u) z
under_both true true x y z same = same refl refl
under_both true false x y z same = refl
under_both false u x y z same = refl

each_crossing : (d : Diagram) → IsGrid d → (i j : ℕ) → i ≢ j → (r : ℕ) → r < size d → (c : ℕ) → c < size d
    → where_true (row_component_number d r == j) (where_true (is_of d i c && crosses d c r) (sign d c r))
    ≡ where_true (has_row d (is_of d j) r && is_of d i c) (passing d c r)
each_crossing d grid i j ne r in_r c in_c =
    let own = row_component_is d grid r in_r in
    ap (λ (k : ℕ). where_true (k == j) (where_true (is_of d i c && crosses d c r) (sign d c r))) own.0
    ∙ under_both (is_of d j (column_of Cross d r)) (is_of d i c) (crosses d c r) (sign d c r) (passing d c r) (λ t u.
    let of_row = eqb-true (component_number d (column_of Cross d r)) j t in
    let of_column = eqb-true (component_number d c) i u in
    sign_by_marks d grid c r in_c in_r
    (λ e. ne (sym of_column ∙ (ap (component_number d) e ∙ of_row)))
    (λ e. ne (sym of_column ∙ (ap (component_number d) e ∙ (sym own.1 ∙ (own.0 ∙ of_row))))))

row_sum : (d : Diagram) → IsGrid d → (i j : ℕ) → i ≢ j → (r : ℕ) → r < size d
    → where_true (row_component_number d r == j) (total (size d) (λ c. where_true (is_of d i c && crosses d c r) (sign d c r)))
    ≡ total (size d) (λ c. where_true (has_row d (is_of d j) r && is_of d i c) (passing d c r))
row_sum d grid i j ne r lt =
    sym (over_where (row_component_number d r == j) (λ c. where_true (is_of d i c && crosses d c r) (sign d c r)) (range_with_len 0 (size d)))
    ∙ total_same (size d) (λ c. where_true (row_component_number d r == j) (where_true (is_of d i c && crosses d c r) (sign d c r)))
    (λ c. where_true (has_row d (is_of d j) r && is_of d i c) (passing d c r)) (each_crossing d grid i j ne r lt)

pub linking_by_crossings : (d : Diagram) → IsGrid d → (i j : ℕ) → i ≢ j → linking_number d i j ≡ by_crossings d (is_of d i) (is_of d j)
linking_by_crossings d grid i j ne =
    sum_of_flat_map (signs_of_row d i) (filter (λ r. row_component_number d r == j) (range_with_len 0 (size d)))
    ∙ (over_filter (λ r. sum_of (signs_of_row d i r)) (λ r. row_component_number d r == j) (range_with_len 0 (size d))
    ∙ total_same (size d) (λ r. where_true (row_component_number d r == j) (sum_of (signs_of_row d i r)))
    (λ r. total (size d) (λ c. where_true (has_row d (is_of d j) r && is_of d i c) (passing d c r)))
    (λ r lt. ap (where_true (row_component_number d r == j))
    (sum_of_map (λ c. sign d c r) (filter (λ c. is_of d i c && crosses d c r) (range_with_len 0 (size d)))
    ∙ over_filter (λ c. sign d c r) (λ c. is_of d i c && crosses d c r) (range_with_len 0 (size d))) ∙ row_sum d grid i j ne r lt))
