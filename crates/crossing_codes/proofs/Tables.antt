-- Tables by row and by cell, and the bounds of what is read from them.
use Rattle.std.proofs.Common.{◌≡◌, ◌<◌, ◌≤◌, ◌+◌, ◌∙◌, inl, inr, ℕ, List, length, get_or, set, sym, ap, arith, get_or-set_same, get_or-set_other}
use Rattle.std.proofs.lemmas.Bool.{cases_eq}
use Rattle.grid_core.specs.declared.mark.Kind.{Kind}
use Rattle.grid_core.specs.declared.mark.Kind.TheVariants.{Cross, Ring}
use Rattle.grid_core.specs.Diagram.{Diagram, IsGrid, size, row_of}
use Rattle.grid_core.specs.Parts.{column_of, column_span, ends}
use Rattle.grid_core.proofs.Marks.{row_below, row_once, column_mark, no_cell_twice}
use Rattle.grid_core.proofs.Ends.{has_ends, span_low, span_high}
use Rattle.crossing_codes.specs.Layout.{HasColumns}

-- the columns by row, for the columns before c
pub columns_more : (kind : Kind) (d : Diagram) → IsGrid d → (columns : List ℕ) (c : ℕ) → size d ≤ length columns → c < size d
    → ((k : ℕ) → k < c → get_or columns (row_of kind d k) 0 ≡ k) → (k : ℕ) → k < c + 1 → get_or (set columns (row_of kind d c) c) (row_of kind d k) 0 ≡ k
columns_more kind d grid columns c long lt so_far k less = elim (cases_eq k c) [
  | inl same ↦
      ap (λ (i : ℕ). get_or (set columns (row_of kind d c) c) (row_of kind d i) 0) same
      ∙ (get_or-set_same columns (row_of kind d c) c 0 (let b = row_below d grid kind c lt in omega arith) ∙ sym same)
  | inr other ↦
      get_or-set_other columns (row_of kind d c) (row_of kind d k) c 0 (λ e. other (row_once d grid kind k c (omega (arith, less, other)) lt e))
      ∙ so_far k (omega (arith, less, other))
]

pub columns_all : (kind : Kind) (d : Diagram) → IsGrid d → (columns : List ℕ) (c : ℕ) → size d ≤ c
    → ((k : ℕ) → k < c → get_or columns (row_of kind d k) 0 ≡ k) → HasColumns kind d columns
columns_all kind d grid columns c most all r lt =
    let mark = column_mark d grid kind r lt in
    let inside = mark.inside in
    ap (λ (i : ℕ). get_or columns i 0) (sym mark.row) ∙ all (column_of kind d r) (omega arith)

-- the marks of a column stand in two rows of the diagram, and those of a row in two columns
pub column_within : (d : Diagram) → IsGrid d → (c : ℕ) → c < size d → ((column_span d c).low < (column_span d c).high) × ((column_span d c).high < size d)
column_within d grid c lt =
    let low = span_low (row_of Cross d c) (row_of Ring d c) in
    let high = span_high (row_of Cross d c) (row_of Ring d c) in
    let apart = no_cell_twice d grid c lt in
    let cross = row_below d grid Cross c lt in
    let ring = row_below d grid Ring c lt in
    (omega arith, omega arith)

pub row_within : (d : Diagram) → IsGrid d → (r : ℕ) → r < size d → ((ends d r).low < (ends d r).high) × ((ends d r).high < size d)
row_within d grid r lt = let e = has_ends d grid r lt in (e.ordered, e.within)
