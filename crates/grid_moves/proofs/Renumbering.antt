-- What follows where each mark goes to another place, by columns and by rows.
use Rattle.std.proofs.Common.{◌≡◌, ◌<◌, ◌∙◌, ℕ, length, arith, sym, refl, ap}
use Rattle.grid_core.specs.declared.mark.Kind.{Kind}
use Rattle.grid_core.specs.declared.mark.Kind.TheVariants.{Cross, Ring}
use Rattle.grid_core.specs.Diagram.{Diagram, IsGrid, size, row_of}
use Rattle.grid_core.proofs.Marks.{mark_at, same_diagram, grid_from_rows, no_cell_twice, row_below, row_once}
use Rattle.grid_moves.specs.Renumbered.{Renumbered, unchanged}

-- the numbers below n, in another order
pub record Permutes (n : ℕ) (f : ℕ → ℕ) : Type 0 where
  pub below : (c : ℕ) → c < n → f c < n
  pub same : (b c : ℕ) → b < n → c < n → f b ≡ f c → b ≡ c
  pub onto : (c : ℕ) → c < n → (b : ℕ) × (b < n) × (f b ≡ c)

pub unchanged-permutes : (n : ℕ) → Permutes n unchanged
unchanged-permutes n = record {
  below = λ c lt. lt;
  same = λ b c hb hc e. e;
  onto = λ c lt. (c, lt, refl);
}

-- the row of a mark of e, from the column of d that it came from
pub renumbered_row : (new_column new_row : ℕ → ℕ) (d e : Diagram) → Renumbered new_column new_row d e → (kind : Kind) (b : ℕ) → b < size d
    → row_of kind e (new_column b) ≡ new_row (row_of kind d b)
renumbered_row new_column new_row d e renumbered kind b lt = (renumbered.marks kind b (row_of kind d b) (mark_at d kind b lt)).row

-- the marks before, and where each goes, leave one diagram after
pub renumbered_once : (new_column new_row : ℕ → ℕ) (d e f : Diagram) → Permutes (size d) new_column → IsGrid e → IsGrid f → Renumbered new_column new_row d e
    → Renumbered new_column new_row d f → e ≡ f
renumbered_once new_column new_row d e f turn ge gf ce cf =
    same_diagram e f ge gf (ce.same_size ∙ sym cf.same_size)
    (λ kind c lt.
    let from = turn.onto c (omega (arith, lt, ce.same_size)) in
    let one : row_of kind e c ≡ new_row (row_of kind d from.0) =
    sym (ap (λ (z : ℕ). row_of kind e z) from.2) ∙ renumbered_row new_column new_row d e ce kind from.0 from.1 in
    let two : row_of kind f c ≡ new_row (row_of kind d from.0) =
    sym (ap (λ (z : ℕ). row_of kind f z) from.2) ∙ renumbered_row new_column new_row d f cf kind from.0 from.1 in
    one ∙ sym two)

-- the column of d from which a column of e came
came_from : (new_column new_row : ℕ → ℕ) (d e : Diagram) → Permutes (size d) new_column → Renumbered new_column new_row d e → (c : ℕ) → c < size e
    → (b : ℕ) × (b < size d) × (new_column b ≡ c) × ((kind : Kind) → row_of kind e c ≡ new_row (row_of kind d b))
came_from new_column new_row d e turn renumbered c lt =
    let from = turn.onto c (omega (arith, lt, renumbered.same_size)) in
    (from.0, from.1, from.2, λ kind. sym (ap (λ (z : ℕ). row_of kind e z) from.2) ∙ renumbered_row new_column new_row d e renumbered kind from.0 from.1)

-- a grid unchanged a grid
pub renumbered_grid : (new_column new_row : ℕ → ℕ) (d e : Diagram) → Permutes (size d) new_column → Permutes (size d) new_row → IsGrid d
    → length e.o ≡ length e.x → Renumbered new_column new_row d e → IsGrid e
renumbered_grid new_column new_row d e turn lift grid same renumbered =
    let n : size e ≡ size d = renumbered.same_size in
    grid_from_rows e (omega (arith, n, grid.least)) (omega (arith, n, grid.most)) same
    (λ kind c lt.
    let from = came_from new_column new_row d e turn renumbered c lt in
    let under = lift.below (row_of kind d from.0) (row_below d grid kind from.0 from.1) in
    omega (arith, from.3 kind, under, n))
    (λ kind b c hb hc e'.
    let fb = came_from new_column new_row d e turn renumbered b hb in
    let fc = came_from new_column new_row d e turn renumbered c hc in
    let rows : row_of kind d fb.0 ≡ row_of kind d fc.0 =
    lift.same (row_of kind d fb.0) (row_of kind d fc.0) (row_below d grid kind fb.0 fb.1) (row_below d grid kind fc.0 fc.1)
    (sym (fb.3 kind) ∙ e' ∙ fc.3 kind) in
    sym fb.2 ∙ ap new_column (row_once d grid kind fb.0 fc.0 fb.1 fc.1 rows) ∙ fc.2)
    (λ c lt e'.
    let from = came_from new_column new_row d e turn renumbered c lt in
    no_cell_twice d grid from.0 from.1
    (lift.same (row_of Cross d from.0) (row_of Ring d from.0) (row_below d grid Cross from.0 from.1) (row_below d grid Ring from.0 from.1)
    (sym (from.3 Cross) ∙ e' ∙ from.3 Ring)))

-- and the way back
pub renumbered_back : (new_column new_row new_column' new_row' : ℕ → ℕ) (d e : Diagram) → Permutes (size d) new_column → IsGrid d
    → ((c : ℕ) → c < size d → new_column' (new_column c) ≡ c) → ((r : ℕ) → r < size d → new_row' (new_row r) ≡ r) → Renumbered new_column new_row d e
    → Renumbered new_column' new_row' e d
renumbered_back new_column new_row new_column' new_row' d e turn grid left low renumbered = record {
  same_size = sym renumbered.same_size;
  marks = λ kind c r mark.
      let from = came_from new_column new_row d e turn renumbered c mark.inside in
      let row : r ≡ new_row (row_of kind d from.0) = sym mark.row ∙ from.3 kind in
      let column : new_column' c ≡ from.0 = sym (ap new_column' from.2) ∙ left from.0 from.1 in
      let under : row_of kind d from.0 < size d = row_below d grid kind from.0 from.1 in
      record {
        inside = omega (arith, column, from.1);
        row = ap (λ (z : ℕ). row_of kind d z) column ∙ sym (ap new_row' row ∙ low (row_of kind d from.0) under);
      };
}
