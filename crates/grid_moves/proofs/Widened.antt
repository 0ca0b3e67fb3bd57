-- A stabilisation puts in one row q, and for each kind one column: the marks of the new row stand there.
use Rattle.std.proofs.Common.{◌≡◌, ◌≢◌, ◌<◌, ◌≤◌, ◌+◌, ◌-◌, ◌∙◌, ◌⊎◌, ℕ, arith, sym, refl, ap, subst, inl, inr}
use Rattle.std.proofs.lemmas.Bool.{cases_eq}
use Rattle.std.proofs.lemmas.Bool.Decides.{nat_tests}
use Rattle.grid_core.specs.declared.mark.Kind.{Kind}
use Rattle.grid_core.specs.declared.mark.Kind.TheVariants.{Cross, Ring}
use Rattle.grid_core.specs.declared.mark.Corner.{Corner}
use Rattle.grid_core.specs.declared.mark.Corner.TheVariants.{LowLeft, LowRight, HighLeft, HighRight}
use Rattle.grid_core.specs.Diagram.{Diagram, HasMark, IsGrid, size, row_of, other}
use Rattle.grid_core.specs.Corners.{corner_column, corner_row}
use Rattle.grid_core.specs.Places.{lifted}
use Rattle.grid_core.proofs.Marks.{mark_at, no_cell_twice, row_once}
use Rattle.grid_moves.specs.Stabilisation.{Stabilises}
use Rattle.grid_moves.specs.DoubleRows.{column_in_new_row}

-- e is d with a new row q, and with a new column for the marks of each kind, whose mark stands in row q
pub record Widened (place : Kind → ℕ) (q : ℕ) (d e : Diagram) : Type 0 where
  pub larger : size e ≡ size d + 1
  pub fresh : (k : Kind) → row_of k e (place k) ≡ q
  pub kept : (k : Kind) (b : ℕ) → b < size d → row_of k e (lifted (place k) b) ≡ lifted q (row_of k d b)

pub place_same : (c : ℕ) (kind : Kind) (corner : Corner) → column_in_new_row c kind corner kind ≡ c + 1 - corner_column corner
place_same c Cross corner = refl
place_same c Ring corner = refl

pub place_other : (c : ℕ) (kind : Kind) (corner : Corner) → column_in_new_row c kind corner (other kind) ≡ c + corner_column corner
place_other c Cross corner = refl
place_other c Ring corner = refl

pub right_small : (corner : Corner) → corner_column corner ≤ 1
right_small LowLeft = omega arith
right_small LowRight = omega arith
right_small HighLeft = omega arith
right_small HighRight = omega arith

pub above_small : (corner : Corner) → corner_row corner ≤ 1
above_small LowLeft = omega arith
above_small LowRight = omega arith
above_small HighLeft = omega arith
above_small HighRight = omega arith

pub near_low : (c i : ℕ) → i ≤ 1 → (c + i ≡ c) ⊎ (c + i ≡ c + 1)
near_low c i le = elim (cases_eq i 0) [ inl e ↦ inl (omega (arith, e)) | inr ne ↦ inr (omega (arith, ne, le)) ]

near_high : (c i : ℕ) → i ≤ 1 → (c + 1 - i ≡ c) ⊎ (c + 1 - i ≡ c + 1)
near_high c i le = elim (cases_eq i 0) [ inl e ↦ inr (omega (arith, e)) | inr ne ↦ inl (omega (arith, ne, le)) ]

pub place_near : (c : ℕ) (kind : Kind) (corner : Corner) (k : Kind) → (column_in_new_row c kind corner k ≡ c) ⊎ (column_in_new_row c kind corner k ≡ c + 1)
place_near c Cross corner Cross = near_high c (corner_column corner) (right_small corner)
place_near c Cross corner Ring = near_low c (corner_column corner) (right_small corner)
place_near c Ring corner Cross = near_low c (corner_column corner) (right_small corner)
place_near c Ring corner Ring = near_high c (corner_column corner) (right_small corner)

pub kinds : (kind k : Kind) → (k ≡ kind) ⊎ (k ≡ other kind)
kinds Cross Cross = inl refl
kinds Cross Ring = inr refl
kinds Ring Cross = inr refl
kinds Ring Ring = inl refl

-- one number among those that were lifted
pub lifted_low : (c i : ℕ) → i ≤ 1 → lifted (c + i) c ≡ c + 1 - i
lifted_low c i le = grind (arith, nat_tests)

pub lifted_high : (c i : ℕ) → i ≤ 1 → lifted (c + 1 - i) c ≡ c + i
lifted_high c i le = grind (arith, nat_tests)

lifted_either : (c p b : ℕ) → (p ≡ c) ⊎ (p ≡ c + 1) → b ≢ c → lifted p b ≡ lifted (c + 1) b
lifted_either c p b near ne = grind (arith, nat_tests)

pub at_column : (k : Kind) (e : Diagram) (m n r : ℕ) → m ≡ n → row_of k e m ≡ r → row_of k e n ≡ r
at_column k e m n r q is = ap (λ (z : ℕ). row_of k e z) (sym q) ∙ is

lifted-below : (c b n : ℕ) → b < n → lifted (c + 1) b < n + 1
lifted-below c b n lt = grind (arith, nat_tests)

pub two_kinds : (d : Diagram) → IsGrid d → (kind : Kind) (c : ℕ) → c < size d → row_of kind d c ≢ row_of (other kind) d c
two_kinds d grid Cross c lt e = no_cell_twice d grid c lt e
two_kinds d grid Ring c lt e = no_cell_twice d grid c lt (sym e)

-- from the list form to the cells
pub stabilises_from_widened : (c : ℕ) (kind : Kind) (corner : Corner) (r : ℕ) (d e : Diagram) → IsGrid d → HasMark d kind c r
    → Widened (column_in_new_row c kind corner) (r + corner_row corner) d e → Stabilises c kind corner r d e
stabilises_from_widened c kind corner r d e grid mark wide =
    let i = right_small corner in
    let j = above_small corner in
    let n = wide.larger in
    let lt = mark.inside in
    let same = place_same c kind corner in
    let far = place_other c kind corner in
    let row : (s : ℕ) → s ≢ r → lifted (r + corner_row corner) s ≡ lifted (r + 1) s =
    λ s ne. lifted_either r (r + corner_row corner) s (near_low r (corner_row corner) j) ne in
    record {
      marked = mark;
      larger = n;
      at_corner =
          record {
            inside = omega (arith, i, n, lt);
            row =
                at_column (other kind) e (column_in_new_row c kind corner (other kind)) (c + corner_column corner) (r + corner_row corner) far
                (wide.fresh (other kind));
          };
      in_its_row =
          record {
            inside = omega (arith, i, n, lt);
            row = at_column kind e (column_in_new_row c kind corner kind) (c + 1 - corner_column corner) (r + corner_row corner) same (wide.fresh kind);
          };
      in_its_column = record {
        inside = omega (arith, i, n, lt);
        row =
            at_column kind e (lifted (column_in_new_row c kind corner kind) c) (c + corner_column corner) (r + 1 - corner_row corner)
            (ap (λ (z : ℕ). lifted z c) same ∙ lifted_high c (corner_column corner) i)
            (wide.kept kind c lt ∙ ap (λ (z : ℕ). lifted (r + corner_row corner) z) mark.row ∙ lifted_low r (corner_row corner) j);
      };
      of_column = λ s m. record {
        inside = omega (arith, i, n, lt);
        row =
            at_column (other kind) e (lifted (column_in_new_row c kind corner (other kind)) c) (c + 1 - corner_column corner) (lifted (r + 1) s)
            (ap (λ (z : ℕ). lifted z c) far ∙ lifted_low c (corner_column corner) i)
            (wide.kept (other kind) c lt ∙ ap (λ (z : ℕ). lifted (r + corner_row corner) z) m.row
            ∙ row s (λ e'. two_kinds d grid kind c lt (mark.row ∙ sym e' ∙ sym m.row)));
      };
      of_row = λ b m. record {
        inside = omega (arith, n, lifted-below c b (size d) m.inside);
        row =
            at_column (other kind) e (lifted (column_in_new_row c kind corner (other kind)) b) (lifted (c + 1) b) (r + 1 - corner_row corner)
            (lifted_either c (column_in_new_row c kind corner (other kind)) b (place_near c kind corner (other kind))
            (λ e'. two_kinds d grid kind c lt (mark.row ∙ sym (at_column (other kind) d b c r e' m.row))))
            (wide.kept (other kind) b m.inside ∙ ap (λ (z : ℕ). lifted (r + corner_row corner) z) m.row ∙ lifted_low r (corner_row corner) j);
      };
      of_others = λ k b s b_apart s_apart m. record {
        inside = omega (arith, n, lifted-below c b (size d) m.inside);
        row =
            at_column k e (lifted (column_in_new_row c kind corner k) b) (lifted (c + 1) b) (lifted (r + 1) s)
            (lifted_either c (column_in_new_row c kind corner k) b (place_near c kind corner k) b_apart)
            (wide.kept k b m.inside ∙ ap (λ (z : ℕ). lifted (r + corner_row corner) z) m.row ∙ row s s_apart);
      };
    }

-- and from the cells to the list form
pub widened_from_stabilises : (c : ℕ) (kind : Kind) (corner : Corner) (r : ℕ) (d e : Diagram) → IsGrid d → Stabilises c kind corner r d e
    → Widened (column_in_new_row c kind corner) (r + corner_row corner) d e
widened_from_stabilises c kind corner r d e grid stab = record {
  larger = stab.larger;
  fresh = λ k. elim (kinds kind k) [
    | inl is ↦
        subst (λ z. row_of z e (column_in_new_row c kind corner z) ≡ r + corner_row corner) (sym is)
        (at_column kind e (c + 1 - corner_column corner) (column_in_new_row c kind corner kind) (r + corner_row corner)
        (sym (place_same c kind corner)) stab.in_its_row.row)
    | inr is ↦
        subst (λ z. row_of z e (column_in_new_row c kind corner z) ≡ r + corner_row corner) (sym is)
        (at_column (other kind) e (c + corner_column corner) (column_in_new_row c kind corner (other kind)) (r + corner_row corner)
        (sym (place_other c kind corner)) stab.at_corner.row)
  ];
  kept = λ k b lt. elim (cases_eq b c) [
    | inl is ↦ subst (λ (z : ℕ). row_of k e (lifted (column_in_new_row c kind corner k) z) ≡ lifted (r + corner_row corner) (row_of k d z)) (sym is) (at_own k)
    | inr b_apart ↦ elim (cases_eq (row_of k d b) r) [
      | inl is ↦ in_row k b lt b_apart is
      | inr s_apart ↦
          at_column k e (lifted (c + 1) b) (lifted (column_in_new_row c kind corner k) b) (lifted (r + corner_row corner) (row_of k d b))
          (sym (lifted_either c (column_in_new_row c kind corner k) b (place_near c kind corner k) b_apart))
          ((stab.of_others k b (row_of k d b) b_apart s_apart (mark_at d k b lt)).row
          ∙ sym (lifted_either r (r + corner_row corner) (row_of k d b) (near_low r (corner_row corner) j) s_apart))
    ]
  ];
}
  where
    i : corner_column corner ≤ 1
    i = right_small corner

    j : corner_row corner ≤ 1
    j = above_small corner

    at_own_same : row_of kind e (lifted (column_in_new_row c kind corner kind) c) ≡ lifted (r + corner_row corner) (row_of kind d c)
    at_own_same =
        at_column kind e (c + corner_column corner) (lifted (column_in_new_row c kind corner kind) c) (lifted (r + corner_row corner) (row_of kind d c))
        (sym (ap (λ (z : ℕ). lifted z c) (place_same c kind corner) ∙ lifted_high c (corner_column corner) i))
        (stab.in_its_column.row ∙ sym (ap (λ (z : ℕ). lifted (r + corner_row corner) z) stab.marked.row ∙ lifted_low r (corner_row corner) j))

    at_own_other : row_of (other kind) e (lifted (column_in_new_row c kind corner (other kind)) c) ≡ lifted (r + corner_row corner) (row_of (other kind) d c)
    at_own_other =
        at_column (other kind) e (c + 1 - corner_column corner) (lifted (column_in_new_row c kind corner (other kind)) c)
        (lifted (r + corner_row corner) (row_of (other kind) d c))
        (sym (ap (λ (z : ℕ). lifted z c) (place_other c kind corner) ∙ lifted_low c (corner_column corner) i))
        ((stab.of_column (row_of (other kind) d c) (mark_at d (other kind) c stab.marked.inside)).row
        ∙ sym (lifted_either r (r + corner_row corner) (row_of (other kind) d c) (near_low r (corner_row corner) j)
        (λ e'. two_kinds d grid kind c stab.marked.inside (stab.marked.row ∙ sym e'))))

    at_own : (k : Kind) → row_of k e (lifted (column_in_new_row c kind corner k) c) ≡ lifted (r + corner_row corner) (row_of k d c)
    at_own k = elim (kinds kind k) [
      | inl is ↦ subst (λ z. row_of z e (lifted (column_in_new_row c kind corner z) c) ≡ lifted (r + corner_row corner) (row_of z d c)) (sym is) at_own_same
      | inr is ↦ subst (λ z. row_of z e (lifted (column_in_new_row c kind corner z) c) ≡ lifted (r + corner_row corner) (row_of z d c)) (sym is) at_own_other
    ]

    in_row_other : (b : ℕ) → b < size d → b ≢ c → row_of (other kind) d b ≡ r
        → row_of (other kind) e (lifted (column_in_new_row c kind corner (other kind)) b) ≡ lifted (r + corner_row corner) (row_of (other kind) d b)
    in_row_other b lt b_apart is =
        at_column (other kind) e (lifted (c + 1) b) (lifted (column_in_new_row c kind corner (other kind)) b)
        (lifted (r + corner_row corner) (row_of (other kind) d b))
        (sym (lifted_either c (column_in_new_row c kind corner (other kind)) b (place_near c kind corner (other kind)) b_apart))
        ((stab.of_row b (record { inside = lt; row = is })).row
        ∙ sym (ap (λ (z : ℕ). lifted (r + corner_row corner) z) is ∙ lifted_low r (corner_row corner) j))

    in_row : (k : Kind) (b : ℕ) → b < size d → b ≢ c → row_of k d b ≡ r
        → row_of k e (lifted (column_in_new_row c kind corner k) b) ≡ lifted (r + corner_row corner) (row_of k d b)
    in_row k b lt b_apart is = elim (kinds kind k) [
      | inl same ↦ absurd (b_apart (row_once d grid kind b c lt stab.marked.inside (subst (λ z. row_of z d b ≡ r) same is ∙ sym stab.marked.row)))
      | inr far ↦
          subst (λ z. row_of z e (lifted (column_in_new_row c kind corner z) b) ≡ lifted (r + corner_row corner) (row_of z d b)) (sym far)
          (in_row_other b lt b_apart (subst (λ z. row_of z d b ≡ r) far is))
    ]

-- the same, under other names of the columns and the row
pub widened_along : (place place' : Kind → ℕ) (q q' : ℕ) (d e : Diagram) → ((k : Kind) → place k ≡ place' k) → q ≡ q' → Widened place q d e
    → Widened place' q' d e
widened_along place place' q q' d e same row wide = record {
  larger = wide.larger;
  fresh = λ k. ap (λ (z : ℕ). row_of k e z) (sym (same k)) ∙ wide.fresh k ∙ row;
  kept = λ k b lt. ap (λ (z : ℕ). row_of k e (lifted z b)) (sym (same k)) ∙ wide.kept k b lt ∙ ap (λ (z : ℕ). lifted z (row_of k d b)) row;
}
