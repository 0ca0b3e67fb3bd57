-- Two columns that share a row, and two rows that share a column, are of one component: of two different components they are never one of each.
use Rattle.std.proofs.Common.{◌≡◌, ◌≢◌, ◌<◌, ◌+◌, ◌∙◌, ◌==◌, ◌⊎◌, ℕ, arith, sym, ap, inl, inr}
use Rattle.std.specs.Prelude.{true, false, ◌&&◌}
use Rattle.std.proofs.lemmas.Bool.{cases_eq}
use Rattle.std.proofs.lemmas.Bool.Decides.{nat_tests}
use Rattle.grid_core.specs.declared.mark.Kind.{Kind}
use Rattle.grid_core.specs.declared.mark.Kind.TheVariants.{Cross, Ring}
use Rattle.grid_core.specs.Diagram.{Diagram, IsGrid, size, row_of}
use Rattle.grid_core.specs.Span.{span, share_an_end}
use Rattle.grid_core.specs.Parts.{column_of, column_span, ends}
use Rattle.grid_core.proofs.Marks.{mark_at}
use Rattle.grid_moves.specs.Slide.{MaySlide}
use Rattle.linking_core.specs.Component.{component_number}
use Rattle.linking_core.proofs.ComponentNumbers.{component_shared, row_component_by_kind}
use Rattle.linking_core.proofs.Signs.{is_of}
use Rattle.linking_core.proofs.TradeSums.{ColumnsTrade, RowsTrade}

-- of two intervals that share an end, one end of the first is an end of the second
shared_end : (a b x y : ℕ) → share_an_end (span a b) (span x y) ≡ true → ((a ≡ x) ⊎ (a ≡ y)) ⊎ ((b ≡ x) ⊎ (b ≡ y))
shared_end a b x y shared = elim (cases_eq a x) [
  | inl e ↦ inl (inl e)
  | inr ax ↦ elim (cases_eq a y) [
    | inl e ↦ inl (inr e)
    | inr ay ↦ elim (cases_eq b x) [
      | inl e ↦ inr (inl e)
      | inr bx ↦ elim (cases_eq b y) [
        | inl e ↦ inr (inr e)
        | inr by' ↦ absurd (grind (arith, nat_tests, shared, ax, ay, bx, by'))
      ]
    ]
  ]
]

-- the same said of two lines by the marks of both
shared_marks : (f g : Kind → ℕ) → share_an_end (span (f Cross) (f Ring)) (span (g Cross) (g Ring)) ≡ true
    → (one : Kind) × ((other : Kind) × (f one ≡ g other))
shared_marks f g shared = elim (shared_end (f Cross) (f Ring) (g Cross) (g Ring) shared) [
  | inl cross ↦ elim cross [ inl e ↦ (Cross, (Cross, e)) | inr e ↦ (Cross, (Ring, e)) ]
  | inr ring ↦ elim ring [ inl e ↦ (Ring, (Cross, e)) | inr e ↦ (Ring, (Ring, e)) ]
]

columns_of_one : (d : Diagram) (c : ℕ) → IsGrid d → c + 1 < size d → MaySlide (column_span d c) (column_span d (c + 1))
    → component_number d c ≡ component_number d (c + 1)
columns_of_one d c grid inside may =
    let shared = shared_marks (λ kind. row_of kind d c) (λ kind. row_of kind d (c + 1)) may.shared in
    component_shared d grid c (c + 1) (record {
      row = row_of shared.0 d c;
      one = shared.0;
      other = shared.1.0;
      of_first = mark_at d shared.0 c (omega (arith, inside));
      of_second = record { inside = inside; row = sym shared.1.1 };
    })

rows_of_one : (d : Diagram) (r : ℕ) → IsGrid d → r + 1 < size d → MaySlide (ends d r) (ends d (r + 1))
    → component_number d (column_of Cross d r) ≡ component_number d (column_of Cross d (r + 1))
rows_of_one d r grid inside may =
    let here : r < size d = omega (arith, inside) in
    let shared = shared_marks (λ kind. column_of kind d r) (λ kind. column_of kind d (r + 1)) may.shared in
    sym (row_component_by_kind d grid Cross r here)
    ∙ (row_component_by_kind d grid shared.0 r here
    ∙ (ap (component_number d) shared.1.1
    ∙ (sym (row_component_by_kind d grid shared.1.0 (r + 1) inside)
    ∙ row_component_by_kind d grid Cross (r + 1) inside)))

-- one number isn't both of two different ones
not_both : (m n i j : ℕ) → m ≡ n → i ≢ j → ((m == j) && (n == i)) ≡ false
not_both m n i j same ne = grind (arith, nat_tests, same, ne)

pub slid_columns_trade : (d : Diagram) (c : ℕ) → IsGrid d → c + 1 < size d → MaySlide (column_span d c) (column_span d (c + 1))
    → (i j : ℕ) → i ≢ j → ColumnsTrade d c (is_of d i) (is_of d j)
slid_columns_trade d c grid inside may i j ne =
    let same = columns_of_one d c grid inside may in
    record {
      forth = inl (not_both (component_number d c) (component_number d (c + 1)) i j same ne);
      back = inl (not_both (component_number d (c + 1)) (component_number d c) i j (sym same) ne);
    }

pub slid_rows_trade : (d : Diagram) (r : ℕ) → IsGrid d → r + 1 < size d → MaySlide (ends d r) (ends d (r + 1))
    → (i j : ℕ) → i ≢ j → RowsTrade d r (is_of d i) (is_of d j)
slid_rows_trade d r grid inside may i j ne =
    let same = rows_of_one d r grid inside may in
    record {
      forth = inl (not_both (component_number d (column_of Cross d (r + 1))) (component_number d (column_of Cross d r)) i j (sym same) ne);
      back = inl (not_both (component_number d (column_of Cross d r)) (component_number d (column_of Cross d (r + 1))) i j same ne);
    }
