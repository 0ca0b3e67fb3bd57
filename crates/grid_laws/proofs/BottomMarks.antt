-- A bottom, by the other marks of its two columns.
use Rattle.std.proofs.Common.{◌≡◌, ◌≢◌, ◌<◌, ◌==◌, ℕ, true, arith}
use Rattle.std.proofs.lemmas.Bool.Decides.{nat_tests}
use Rattle.std.proofs.lemmas.Bool.{and_parts, and_from}
use Rattle.grid_core.specs.declared.mark.Kind.{Kind}
use Rattle.grid_core.specs.declared.mark.Kind.TheVariants.{Cross, Ring}
use Rattle.grid_core.specs.Diagram.{Diagram, IsGrid, size, row_of, other}
use Rattle.grid_core.specs.Span.{span}
use Rattle.grid_core.specs.Parts.{column_of, column_span, is_bottom}
use Rattle.grid_core.proofs.Marks.{column_mark, no_cell_twice}

-- the lower of two different numbers, one of which is r
low_first : (a b r : ℕ) → a ≡ r → a ≢ b → ((span a b).low == r) ≡ true → r < b
low_first a b r is apart low = grind (arith, nat_tests)

low_second : (a b r : ℕ) → b ≡ r → a ≢ b → ((span a b).low == r) ≡ true → r < a
low_second a b r is apart low = grind (arith, nat_tests)

first_low : (a b r : ℕ) → a ≡ r → r < b → ((span a b).low == r) ≡ true
first_low a b r is lt = grind (arith, nat_tests)

second_low : (a b r : ℕ) → b ≡ r → r < a → ((span a b).low == r) ≡ true
second_low a b r is lt = grind (arith, nat_tests)

pub below_others : (d : Diagram) (r : ℕ) → IsGrid d → r < size d → is_bottom d r ≡ true → (kind : Kind) → r < row_of kind d (column_of (other kind) d r)
below_others d r grid lt bottom kind = by kind
  where
    x : ℕ
    x = column_of Cross d r

    o : ℕ
    o = column_of Ring d r

    both : ((column_span d x).low == r ≡ true) × ((column_span d o).low == r ≡ true)
    both = and_parts ((column_span d x).low == r) ((column_span d o).low == r) bottom

    by : (kind : Kind) → r < row_of kind d (column_of (other kind) d r)
    by Ring =
        let mark = column_mark d grid Cross r lt in
        low_first (row_of Cross d x) (row_of Ring d x) r mark.row (no_cell_twice d grid x mark.inside) both.0
    by Cross =
        let mark = column_mark d grid Ring r lt in
        low_second (row_of Cross d o) (row_of Ring d o) r mark.row (no_cell_twice d grid o mark.inside) both.1

pub others_above : (d : Diagram) (r : ℕ) → IsGrid d → r < size d → ((kind : Kind) → r < row_of kind d (column_of (other kind) d r)) → is_bottom d r ≡ true
others_above d r grid lt above =
    let x = column_of Cross d r in
    let o = column_of Ring d r in
    and_from ((column_span d x).low == r) ((column_span d o).low == r)
    (first_low (row_of Cross d x) (row_of Ring d x) r (column_mark d grid Cross r lt).row (above Ring))
    (second_low (row_of Cross d o) (row_of Ring d o) r (column_mark d grid Ring r lt).row (above Cross))
