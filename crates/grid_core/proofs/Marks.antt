-- The marks of a grid, and a grid from its marks.
use Rattle.std.proofs.Common.{◌⊎◌, inl, inr, ◌==◌, Some, None, cond, ◌≡◌, ◌≢◌, ◌<◌, ◌≤◌, ◌∷◌, ◌∙◌, [], ℕ, zero, suc, List, length, get_or, arith, sym, refl, ap}
use Rattle.std.proofs.Common.{ap₂}
use Rattle.std.specs.List.{zip}
use Rattle.std.proofs.lemmas.List.{ext_get_or, get_or_default}
use Rattle.grid_core.specs.declared.grid.TheConstants.{MAX_SIZE}
use Rattle.grid_core.specs.declared.mark.Kind.{Kind}
use Rattle.grid_core.specs.declared.mark.Kind.TheVariants.{Cross, Ring}
use Rattle.grid_core.specs.Diagram.{Diagram, HasMark, IsGrid, IsGridByMarks, IsOneEach, size, rows_of, row_of}
use Rattle.std.proofs.lemmas.Bool.{ne_eqb, eq-eqb, lt-ltb, cases_order}
use Rattle.std.proofs.lemmas.List.Sums.{position_or_len_is}
use Rattle.std.specs.List.{position}
use Rattle.grid_core.specs.Parts.{column_of}
use Rattle.grid_core.proofs.OneEach.{each_from_apart, each_below, each_apart, each_found}

pub rows_length : (d : Diagram) (kind : Kind) → IsGrid d → length (rows_of kind d) ≡ size d
rows_length d Cross grid = refl
rows_length d Ring grid = grid.same

pub rows_each : (d : Diagram) (kind : Kind) → IsGrid d → IsOneEach (size d) (rows_of kind d)
rows_each d Cross grid = grid.crosses
rows_each d Ring grid = grid.rings

pub mark_at : (d : Diagram) (kind : Kind) (c : ℕ) → c < size d → HasMark d kind c (row_of kind d c)
mark_at d kind c lt = record { inside = lt; row = refl }

abbrev made : List ℕ → List ℕ → Diagram
made x o = record { x = x; o = o }

-- two grids of one size with the same rows are one
pub same_diagram : (d e : Diagram) → IsGrid d → IsGrid e → size d ≡ size e → ((kind : Kind) (c : ℕ) → c < size d → row_of kind d c ≡ row_of kind e c) → d ≡ e
same_diagram d e gd ge n rows =
    let x : d.x ≡ e.x = ext_get_or 0 d.x e.x n (λ c lt. rows Cross c lt) in
    let o : d.o ≡ e.o = ext_get_or 0 d.o e.o (gd.same ∙ n ∙ sym ge.same) (λ c lt. rows Ring c (omega (arith, lt, gd.same))) in
    ap₂ made x o

zip_at : (xs ys : List ℕ) (c : ℕ) (p : ℕ × ℕ) → length ys ≡ length xs → c < length xs → get_or (zip xs ys) c p ≡ (get_or xs c 0, get_or ys c 0)
zip_at [] ys c p e lt = absurd (omega (arith, lt))
zip_at (x ∷ xs) [] c p e lt = absurd (omega (arith, e))
zip_at (x ∷ xs) (y ∷ ys) zero p e lt = refl
zip_at (x ∷ xs) (y ∷ ys) (suc c) p e lt = zip_at xs ys c p (omega (arith, e)) (omega (arith, lt))

zip_length : (xs ys : List ℕ) → length ys ≡ length xs → length (zip xs ys) ≡ length xs
zip_length [] ys e = refl
zip_length (x ∷ xs) [] e = absurd (omega (arith, e))
zip_length (x ∷ xs) (y ∷ ys) e = ap suc (zip_length xs ys (omega (arith, e)))

pub no_cell_twice : (d : Diagram) → IsGrid d → (c : ℕ) → c < size d → row_of Cross d c ≢ row_of Ring d c
no_cell_twice d grid c lt e =
    let at = zip_at d.x d.o c (0, 0) grid.same lt in
    grid.apart c (0, 0) (omega (arith, lt, zip_length d.x d.o grid.same)) (ap (λ (p : ℕ × ℕ). p.0) at ∙ e ∙ sym (ap (λ (p : ℕ × ℕ). p.1) at))

-- a grid, from what is known of each column
pub grid_from_rows : (d : Diagram) → 2 ≤ size d → size d ≤ MAX_SIZE → length d.o ≡ length d.x → ((kind : Kind) (c : ℕ) → c < size d → row_of kind d c < size d)
    → ((kind : Kind) (b c : ℕ) → b < size d → c < size d → row_of kind d b ≡ row_of kind d c → b ≡ c)
    → ((c : ℕ) → c < size d → row_of Cross d c ≢ row_of Ring d c) → IsGrid d
grid_from_rows d least most same below one free = record {
  least = least;
  most = most;
  same = same;
  crosses = each_from_apart (size d) d.x refl (λ k p lt. omega (arith, below Cross k lt, get_or_default d.x k p 0 lt)) (λ i j hi hj e. one Cross i j hi hj e);
  rings =
      each_from_apart (size d) d.o same (λ k p lt. omega (arith, below Ring k (omega (arith, lt, same)), get_or_default d.o k p 0 lt))
      (λ i j hi hj e. one Ring i j (omega (arith, hi, same)) (omega (arith, hj, same)) e);
  apart = λ k p lt e.
      let within : k < size d = omega (arith, lt, zip_length d.x d.o same) in
      let at = zip_at d.x d.o k p same within in
      free k within (sym (ap (λ (q : ℕ × ℕ). q.0) at) ∙ e ∙ ap (λ (q : ℕ × ℕ). q.1) at);
}

pub row_below : (d : Diagram) → IsGrid d → (kind : Kind) (c : ℕ) → c < size d → row_of kind d c < size d
row_below d grid kind c lt = each_below (size d) (rows_of kind d) (rows_each d kind grid) c 0 (omega (arith, rows_length d kind grid, lt))

pub row_once : (d : Diagram) → IsGrid d → (kind : Kind) (b c : ℕ) → b < size d → c < size d → row_of kind d b ≡ row_of kind d c → b ≡ c
row_once d grid kind b c hb hc e =
    each_apart (size d) (rows_of kind d) (rows_each d kind grid) b c (omega (arith, rows_length d kind grid, hb)) (omega (arith, rows_length d kind grid, hc)) e

-- the column of a mark is the one that its row has
pub column_is : (d : Diagram) → IsGrid d → (kind : Kind) (c r : ℕ) → HasMark d kind c r → column_of kind d r ≡ c
column_is d grid kind c r mark =
    let n = rows_length d kind grid in
    position_or_len_is (λ s. s == r) (rows_of kind d) c 0 (omega (arith, n, mark.inside))
    (λ k lt. ne_eqb (row_of kind d k) r
    (λ e. absurd (omega (arith, lt, row_once d grid kind k c (omega (arith, lt, mark.inside)) mark.inside (e ∙ sym mark.row)))))
    (λ lt. eq-eqb (row_of kind d c) r mark.row)

-- each row has a mark of each kind, in a column of the grid
pub column_mark : (d : Diagram) → IsGrid d → (kind : Kind) (r : ℕ) → r < size d → HasMark d kind (column_of kind d r) r
column_mark d grid kind r lt =
    let at = each_found (size d) (rows_of kind d) (rows_each d kind grid) r lt in
    let is : column_of kind d r ≡ at.0 = column_is d grid kind at.0 r (record { inside = at.1; row = at.2 }) in
    record { inside = omega (arith, is, at.1); row = ap (λ (z : ℕ). row_of kind d z) is ∙ at.2 }

pub column_found : (d : Diagram) → IsGrid d → (kind : Kind) (r : ℕ) → r < size d → position (λ s. s == r) (rows_of kind d) ≡ Some (column_of kind d r)
column_found d grid kind r lt =
    ap (λ b. cond b (Some (column_of kind d r)) None)
    (lt-ltb (column_of kind d r) (length (rows_of kind d)) (omega (arith, rows_length d kind grid, (column_mark d grid kind r lt).inside)))

pub rows_fit : (d : Diagram) (kind : Kind) → IsGrid d → length (rows_of kind d) ≤ MAX_SIZE
rows_fit d kind grid = omega (arith, rows_length d kind grid, grid.most)

-- a grid is the set of its marks
pub same_marks : (d e : Diagram) → IsGrid d → IsGrid e → ((kind : Kind) (c r : ℕ) → HasMark d kind c r → HasMark e kind c r)
    → ((kind : Kind) (c r : ℕ) → HasMark e kind c r → HasMark d kind c r) → d ≡ e
same_marks d e gd ge there back =
    same_diagram d e gd ge (one_size (cases_order (size d) (size e))) (λ kind c lt. sym (there kind c (row_of kind d c) (mark_at d kind c lt)).row)
  where
    one_size : (size d ≡ size e) ⊎ ((size d < size e) ⊎ (size e < size d)) → size d ≡ size e
    one_size cases = elim cases [
      | inl is ↦ is
      | inr other ↦ elim other [
        | inl less ↦ absurd (omega (arith, (back Cross (size d) (row_of Cross e (size d)) (mark_at e Cross (size d) less)).inside))
        | inr more ↦ absurd (omega (arith, (there Cross (size e) (row_of Cross d (size e)) (mark_at d Cross (size e) more)).inside))
      ]
    ]

-- a column has one mark of each kind
pub mark_once : (d : Diagram) (kind : Kind) (c r s : ℕ) → HasMark d kind c r → HasMark d kind c s → r ≡ s
mark_once d kind c r s a b = sym a.row ∙ b.row

pub mark_below : (d : Diagram) → IsGrid d → (kind : Kind) (c r : ℕ) → HasMark d kind c r → r < size d
mark_below d grid kind c r mark = omega (arith, mark.row, row_below d grid kind c mark.inside)

-- the two ways to say what a grid is
pub marks_of_grid : (d : Diagram) → IsGrid d → IsGridByMarks d
marks_of_grid d grid = record {
  least = grid.least;
  most = grid.most;
  same = grid.same;
  below = mark_below d grid;
  one = λ kind r lt. (column_of kind d r, column_mark d grid kind r lt);
  single = λ kind b c r at_b at_c. row_once d grid kind b c at_b.inside at_c.inside (at_b.row ∙ sym at_c.row);
  apart = λ c r cross ring. no_cell_twice d grid c cross.inside (cross.row ∙ sym ring.row);
}

pub grid_of_marks : (d : Diagram) → IsGridByMarks d → IsGrid d
grid_of_marks d marks =
    grid_from_rows d marks.least marks.most marks.same
    (λ kind c lt. marks.below kind c (row_of kind d c) (mark_at d kind c lt))
    (λ kind b c hb hc e. marks.single kind b c (row_of kind d c) (record { inside = hb; row = e }) (mark_at d kind c hc))
    (λ c lt e. marks.apart c (row_of Ring d c) (record { inside = lt; row = e }) (mark_at d Ring c lt))
