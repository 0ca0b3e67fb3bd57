-- Shifts and exchanges: what becomes of a sum of signs where columns and rows get new numbers.
use Rattle.std.proofs.Common.{◌≡◌, ◌<◌, ◌∙◌, ℕ, ℤ, arith, sym, refl, ap, ap₂}
use Rattle.std.specs.Prelude.{Bool, nat_lt, ◌&&◌}
use Rattle.grid_core.specs.declared.mark.Kind.{Kind}
use Rattle.grid_core.specs.declared.mark.Kind.TheVariants.{Cross, Ring}
use Rattle.grid_core.specs.Diagram.{Diagram, IsGrid, size, row_of}
use Rattle.grid_core.specs.Parts.{column_of}
use Rattle.grid_core.proofs.Marks.{column_mark, column_is}
use Rattle.grid_moves.specs.Renumbered.{Renumbered, unchanged}
use Rattle.linking_core.proofs.Sums.{total, where_true, total_same, total_moved}
use Rattle.linking_core.proofs.Forms.{interleaving, has_row, columns_meet, by_columns, rows_meet, by_rows}
use Rattle.linking_core.specs.Component.{component_number}
use Rattle.linking_core.proofs.ComponentNumbers.{component_rows}
use Rattle.linking_core.proofs.Corresponding.{Corresponds}
use Rattle.grid_moves.proofs.Renumbering.{renumbered_row}

-- new numbers below n, and the way back
pub record IsRenumbering (n : ℕ) (new old : ℕ → ℕ) : Type 0 where
  pub into : (c : ℕ) → c < n → new c < n
  pub from : (c : ℕ) → c < n → old c < n
  pub there : (c : ℕ) → c < n → old (new c) ≡ c
  pub again : (c : ℕ) → c < n → new (old c) ≡ c

pub unchanged_renumbers : (n : ℕ) → IsRenumbering n unchanged unchanged
unchanged_renumbers n = record { into = λ c lt. lt; from = λ c lt. lt; there = λ c lt. refl; again = λ c lt. refl }

pub new_column_of : (f g : ℕ → ℕ) (d e : Diagram) → IsGrid d → IsGrid e → Renumbered f g d e → (kind : Kind) (r : ℕ) → r < size d
    → column_of kind e (g r) ≡ f (column_of kind d r)
new_column_of f g d e grid grid' marks kind r lt =
    column_is e grid' kind (f (column_of kind d r)) (g r) (marks.marks kind (column_of kind d r) r (column_mark d grid kind r lt))

pub renumbered_corresponds : (f f' g g' : ℕ → ℕ) (d e : Diagram) → IsGrid d → IsGrid e → IsRenumbering (size d) f f' → IsRenumbering (size d) g g'
    → Renumbered f g d e → Corresponds d e f f'
renumbered_corresponds f f' g g' d e grid grid' columns rows marks = record {
  into = λ c lt. let in' = columns.into c lt in omega (arith, in', marks.same_size);
  from = λ c lt. columns.from c (omega (arith, lt, marks.same_size));
  keeps = λ r lt.
      let in' = rows.into r lt in
      ap (component_number e) (sym (new_column_of f g d e grid grid' marks Cross r lt))
      ∙ (component_rows e grid' (g r) (omega (arith, in', marks.same_size)) ∙ ap (component_number e) (new_column_of f g d e grid grid' marks Ring r lt));
  returns = λ r lt.
      let old = rows.from r (omega (arith, lt, marks.same_size)) in
      ap (component_number d) (old_column r Cross (omega (arith, lt, marks.same_size)))
      ∙ (component_rows d grid (g' r) old ∙ sym (ap (component_number d) (old_column r Ring (omega (arith, lt, marks.same_size)))));
  there = λ c lt. ap (component_number d) (columns.there c lt);
  again = λ c lt. ap (component_number e) (columns.again c (omega (arith, lt, marks.same_size)));
}
  where
    old_column : (r : ℕ) (kind : Kind) → r < size d → f' (column_of kind e r) ≡ column_of kind d (g' r)
    old_column r kind lt =
        ap (λ (s : ℕ). f' (column_of kind e s)) (sym (rows.again r lt))
        ∙ (ap f' (new_column_of f g d e grid grid' marks kind (g' r) (rows.from r lt))
        ∙ columns.there (column_of kind d (g' r)) ((column_mark d grid kind (g' r) (rows.from r lt)).inside))

-- two sums over new numbers
twice_moved : (n : ℕ) (f f' : ℕ → ℕ) → IsRenumbering n f f' → (h : ℕ → ℕ → ℤ)
    → total n (λ q. total n (λ c. h (f q) (f c))) ≡ total n (λ q. total n (λ c. h q c))
twice_moved n f f' is h =
    total_same n (λ q. total n (λ c. h (f q) (f c))) (λ q. total n (h (f q))) (λ q lt. total_moved n f f' is.into is.from is.there is.again (h (f q)))
    ∙ total_moved n f f' is.into is.from is.there is.again (λ q. total n (h q))

pub twice_same : (n : ℕ) (h k : ℕ → ℕ → ℤ) → ((q c : ℕ) → q < n → c < n → h q c ≡ k q c)
    → total n (λ q. total n (λ c. h q c)) ≡ total n (λ q. total n (λ c. k q c))
twice_same n h k same = total_same n (λ q. total n (λ c. h q c)) (λ q. total n (λ c. k q c)) (λ q in_q. total_same n (h q) (k q) (λ c in_c. same q c in_q in_c))

-- a pair of columns and a pair of rows after the renumbering
abbrev pub columns_after : Diagram → (ℕ → ℕ) → (ℕ → ℕ) → ℕ → ℕ → ℤ
columns_after d f g q c =
    where_true (nat_lt (f q) (f c)) (interleaving (g (row_of Cross d c)) (g (row_of Ring d c)) (g (row_of Cross d q)) (g (row_of Ring d q)))

abbrev pub rows_after : Diagram → (ℕ → ℕ) → (ℕ → ℕ) → ℕ → ℕ → ℤ
rows_after d f g r s =
    where_true (nat_lt (g r) (g s)) (interleaving (f (column_of Cross d s)) (f (column_of Ring d s)) (f (column_of Cross d r)) (f (column_of Ring d r)))

four_same : (a b x y a' b' x' y' : ℕ) → a' ≡ a → b' ≡ b → x' ≡ x → y' ≡ y → interleaving a' b' x' y' ≡ interleaving a b x y
four_same a b x y a' b' x' y' ea eb ex ey =
    ap₂ (λ (s t : ℕ). interleaving s t x' y') ea eb ∙ ap₂ (λ (s t : ℕ). interleaving a b s t) ex ey

-- the same classes before and after
pub record AreMoved (n : ℕ) (f : ℕ → ℕ) (a a' : ℕ → Bool) : Type 0 where
  pub same : (c : ℕ) → c < n → a' (f c) ≡ a c

pub columns_moved : (f f' g : ℕ → ℕ) (d e : Diagram) → IsRenumbering (size d) f f' → Renumbered f g d e → (a b a' b' : ℕ → Bool)
    → AreMoved (size d) f a a' → AreMoved (size d) f b b'
    → by_columns e a' b' ≡ total (size d) (λ q. total (size d) (λ c. where_true (b q && a c) (columns_after d f g q c)))
columns_moved f f' g d e columns marks a b a' b' of_a of_b =
    ap (λ (n : ℕ). total n (λ q. total n (λ c. at q c))) marks.same_size
    ∙ (sym (twice_moved (size d) f f' columns at)
    ∙ twice_same (size d) (λ q c. at (f q) (f c)) (λ q c. where_true (b q && a c) (columns_after d f g q c)) (λ q c in_q in_c.
    ap₂ (λ (t u : Bool). where_true (t && u) (where_true (nat_lt (f q) (f c)) (columns_meet e (f c) (f q)))) (of_b.same q in_q) (of_a.same c in_c)
    ∙ ap (λ (z : ℤ). where_true (b q && a c) (where_true (nat_lt (f q) (f c)) z))
    (four_same (g (row_of Cross d c)) (g (row_of Ring d c)) (g (row_of Cross d q)) (g (row_of Ring d q)) (row_of Cross e (f c)) (row_of Ring e (f c))
    (row_of Cross e (f q)) (row_of Ring e (f q))
    (renumbered_row f g d e marks Cross c in_c) (renumbered_row f g d e marks Ring c in_c) (renumbered_row f g d e marks Cross q in_q)
    (renumbered_row f g d e marks Ring q in_q))))
  where
    at : ℕ → ℕ → ℤ
    at q c = where_true (b' q && a' c) (where_true (nat_lt q c) (columns_meet e c q))

pub rows_moved : (f g g' : ℕ → ℕ) (d e : Diagram) → IsGrid d → IsGrid e → IsRenumbering (size d) g g' → Renumbered f g d e → (a b a' b' : ℕ → Bool)
    → AreMoved (size d) f a a' → AreMoved (size d) f b b'
    → by_rows e a' b' ≡ total (size d) (λ r. total (size d) (λ s. where_true (has_row d b s && has_row d a r) (rows_after d f g r s)))
rows_moved f g g' d e grid grid' rows marks a b a' b' of_a of_b =
    ap (λ (n : ℕ). total n (λ r. total n (λ s. at r s))) marks.same_size
    ∙ (sym (twice_moved (size d) g g' rows at)
    ∙ twice_same (size d) (λ r s. at (g r) (g s)) (λ r s. where_true (has_row d b s && has_row d a r) (rows_after d f g r s)) (λ r s in_r in_s.
    ap₂ (λ (t u : Bool). where_true (t && u) (where_true (nat_lt (g r) (g s)) (rows_meet e (g r) (g s)))) (class b b' of_b s in_s) (class a a' of_a r in_r)
    ∙ ap (λ (z : ℤ). where_true (has_row d b s && has_row d a r) (where_true (nat_lt (g r) (g s)) z))
    (four_same (f (column_of Cross d s)) (f (column_of Ring d s)) (f (column_of Cross d r)) (f (column_of Ring d r)) (column_of Cross e (g s))
    (column_of Ring e (g s)) (column_of Cross e (g r)) (column_of Ring e (g r))
    (new_column_of f g d e grid grid' marks Cross s in_s) (new_column_of f g d e grid grid' marks Ring s in_s)
    (new_column_of f g d e grid grid' marks Cross r in_r) (new_column_of f g d e grid grid' marks Ring r in_r))))
  where
    at : ℕ → ℕ → ℤ
    at r s = where_true (has_row e b' s && has_row e a' r) (where_true (nat_lt r s) (rows_meet e r s))

    class : (b b' : ℕ → Bool) → AreMoved (size d) f b b' → (s : ℕ) → s < size d → has_row e b' (g s) ≡ has_row d b s
    class b b' of_b s lt = ap b' (new_column_of f g d e grid grid' marks Cross s lt) ∙ of_b.same (column_of Cross d s) ((column_mark d grid Cross s lt).inside)
