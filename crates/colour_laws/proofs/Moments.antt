-- The bottom row of the diagram at each moment of a shift of rows.
use Rattle.std.proofs.Common.{◌≡◌, ◌≢◌, ◌∙◌, ◌<◌, ℕ, Bool, List, length, ap, ap₂, sym, subst, arith, inl, inr, cond}
use Rattle.std.specs.Prelude.{slice_index, nat_lt, ◌==◌, ◌⊎◌}
use Rattle.std.proofs.lemmas.List.{get_or-map, length-map}
use Rattle.std.proofs.lemmas.Bool.{or_cases, eqb-true, eq-eqb, ne_eqb, lt-ltb, le-ltb}
use Rattle.grid_core.specs.declared.mark.Kind.{Kind}
use Rattle.grid_core.specs.declared.span.Span.{Span}
use Rattle.grid_core.specs.declared.mark.Kind.TheVariants.{Cross, Ring}
use Rattle.grid_core.specs.Diagram.{Diagram, IsGrid, size}
use Rattle.grid_core.specs.Span.{span, lies_within}
use Rattle.grid_core.specs.Parts.{column_of, ends, is_up}
use Rattle.grid_core.proofs.Marks.{column_is, column_mark, no_cell_twice, row_below}
use Rattle.grid_moves.specs.Shift.{shifted}
use Rattle.grid_moves.proofs.Shifted.{rows_shifted-renumbered, shifted_to_zero, shifted_above_zero}
use Rattle.quandle_core.specs.Quandle.{Table, IsQuandle}
use Rattle.colour_rows.specs.Walk.{passed_leftward}
use Rattle.colour_rows.specs.Colouring.{AreColours, IsColouring}
use Rattle.colour_laws.specs.Carried.{by_column, after_row_shift, rows_shifted, bottom_row_shifted}
use Rattle.colour_laws.proofs.ColouredColumns.{IsColouringByColumns, fallen}
use Rattle.colour_laws.proofs.RowShiftSteps.{fallen_is, fallen_grid, fallen_inverse, rows_shifted_is}
use Rattle.colour_laws.proofs.RowEnds.{are_ends}
use Rattle.colour_laws.proofs.Walks.{by_columns}
use Rattle.colour_laws.proofs.Edited.{between_passed}

pub after_grid : (d : Diagram) → IsGrid d → (j : ℕ) → j < size d → IsGrid (after_row_shift j d)
after_grid d grid j lt = subst IsGrid (fallen_is d grid j (omega (arith, lt))) (fallen_grid d grid j lt)

-- its ends are those of row j of the diagram before
column_same : (d : Diagram) → IsGrid d → (j : ℕ) → j < size d → (kind : Kind) → column_of kind (after_row_shift j d) 0 ≡ column_of kind d j
column_same d grid j lt kind =
    let mark = (rows_shifted-renumbered j d grid).marks kind (column_of kind d j) j (column_mark d grid kind j lt) in
    column_is (after_row_shift j d) (after_grid d grid j lt) kind (column_of kind d j) 0
    (record { inside = mark.inside; row = mark.row ∙ shifted_to_zero (size d) j lt })

pub ends_same : (d : Diagram) → IsGrid d → (j : ℕ) → j < size d → ends (after_row_shift j d) 0 ≡ ends d j
ends_same d grid j lt = ap₂ span (column_same d grid j lt Cross) (column_same d grid j lt Ring)

-- its left end is up where the X stands in it
up_by : (n j x o : ℕ) → j < n → x < n → o < n → x ≢ o → (x ≡ j) ⊎ (o ≡ j) → nat_lt (shifted n j x) (shifted n j o) ≡ (x == j)
up_by n j x o lt lx lo apart either = elim either [
  | inl e ↦
      lt-ltb (shifted n j x) (shifted n j o) (let low = ap (shifted n j) e ∙ shifted_to_zero n j lt in let high =
      shifted_above_zero n j o lt lo (λ h. apart (e ∙ sym h)) in omega arith)
      ∙ sym (eq-eqb x j e)
  | inr e ↦
      le-ltb (shifted n j x) (shifted n j o) (let low = ap (shifted n j) e ∙ shifted_to_zero n j lt in omega arith)
      ∙ sym (ne_eqb x j (λ h. apart (h ∙ sym e)))
]

pub up_same : (d : Diagram) → IsGrid d → (j : ℕ) → j < size d → is_up (after_row_shift j d) (ends d j).low ≡ (slice_index d.x (ends d j).low == j)
up_same d grid j lt =
    let known = are_ends d grid j lt in
    let c : ℕ = (ends d j).low in
    let at : (ends d j).low < size d = omega (arith, known.ordered, known.within) in
    let either : (slice_index d.x (ends d j).low ≡ j) ⊎ (slice_index d.o (ends d j).low ≡ j) =
    elim (or_cases (slice_index d.x (ends d j).low == j) (slice_index d.o (ends d j).low == j) known.left) [
      | inl e ↦ inl (eqb-true (slice_index d.x (ends d j).low) j e)
      | inr e ↦ inr (eqb-true (slice_index d.o (ends d j).low) j e)
    ] in
    ap₂ nat_lt (get_or-map (shifted (size d) j) d.x (ends d j).low 0 0 at)
    (get_or-map (shifted (size d) j) d.o (ends d j).low 0 0 (omega (arith, at, grid.same)))
    ∙ up_by (size d) j (slice_index d.x (ends d j).low) (slice_index d.o (ends d j).low) lt (row_below d grid Cross (ends d j).low at)
    (row_below d grid Ring (ends d j).low at) (no_cell_twice d grid (ends d j).low at) either

pub up_at_bottom : (d : Diagram) → IsGrid d → (j left x : ℕ) → j < size d → left ≡ (ends d j).low → x ≡ slice_index d.x left
    → (x == j) ≡ is_up (after_row_shift j d) left
up_at_bottom d grid j left x lt left_is x_is =
    ap (λ z. z == j) (x_is ∙ ap (slice_index d.x) left_is) ∙ sym (up_same d grid j lt) ∙ ap (is_up (after_row_shift j d)) (sym left_is)

-- at each moment the colours are a colouring of its diagram
pub moment_colours : (t : Table) → IsQuandle t → (d : Diagram) → IsGrid d → (f : List ℕ) → IsColouring t d f → (j : ℕ) → j < size d
    → AreColours (size d) t.order (rows_shifted t j d f)
moment_colours t q d grid f colouring j lt =
    let old = by_columns t q d grid f colouring in
    let new = subst (IsColouringByColumns t (fallen j d)) (rows_shifted_is t q d grid f old j (omega (arith, lt)))
    ((fallen_inverse t q d grid j lt).goes f old) in
    (new.size ∙ (rows_length d grid j lt), new.below)
  where
    rows_length : (d : Diagram) → IsGrid d → (j : ℕ) → j < size d → length (fallen j d).x ≡ size d
    rows_length d grid j lt = ap (λ (e : Diagram). length e.x) (fallen_is d grid j (omega (arith, lt))) ∙ (rows_shifted-renumbered j d grid).same_size

-- the columns between the ends of row j have passed: the shift by one, at that moment
pub between_is : (t : Table) (d : Diagram) → IsGrid d → (j : ℕ) → j < size d → (ys : List ℕ) → length ys ≡ size d → (left to : ℕ) (up : Bool)
    → left ≡ (ends d j).low → to ≡ (ends d j).high → up ≡ is_up (after_row_shift j d) left
    → between_passed t up (slice_index ys left) left to ys ≡ bottom_row_shifted t (after_row_shift j d) ys
between_is t d grid j lt ys long left to up low high up_is =
    let size_is : length ys ≡ size (after_row_shift j d) = long ∙ sym (length-map d.x (shifted (size d) j)) in
    ap (λ (u : Bool). between_passed t u (slice_index ys left) left to ys) up_is
    ∙ (ap₂ (λ l h. between_passed t (is_up (after_row_shift j d) l) (slice_index ys l) l h ys) low high
    ∙ (ap (λ (n : ℕ). by_column n (λ i. cond (lies_within (ends d j) i) (passed_leftward t (is_up (after_row_shift j d) (ends d j).low) (slice_index ys i)
    (slice_index ys (ends d j).low)) (slice_index ys i))) size_is
    ∙ ap (λ (s : Span). by_column (size (after_row_shift j d))
    (λ i. cond (lies_within s i) (passed_leftward t (is_up (after_row_shift j d) s.low) (slice_index ys i) (slice_index ys s.low)) (slice_index ys i)))
    (sym (ends_same d grid j lt))))
