-- What a colouring is, test by test.
use Rattle.std.proofs.Common.{◌≡◌, ◌==◌, ◌∙◌, ℕ, List, true, length, get_or, sym, ap, arith}
use Rattle.std.specs.Prelude.{nat_lt}
use Rattle.std.specs.List.{range_with_len, list_all}
use Rattle.std.proofs.lemmas.Bool.{eqb-true, eq-eqb, ltb-true, lt-ltb, and_parts, and_from}
use Rattle.std.proofs.lemmas.List.FromFn.{get_or-range_with_len, length-range_with_len}
use Rattle.std.proofs.lemmas.List.Sums.{AllPass-from_list_all, list_all-from_AllPass}
use Rattle.grid_core.specs.Diagram.{Diagram, size}
use Rattle.quandle_core.specs.Quandle.{Table}
use Rattle.colour_rows.specs.Walk.{walk, closes}
use Rattle.colour_rows.specs.Colouring.{AreColours, IsColouring, are_colours, is_colouring}
use Rattle.grid_core.proofs.Ends.{right}
use Rattle.colour_rows.proofs.Ranges.{all_range}

pub colours_from : (n q : ℕ) (f : List ℕ) → are_colours n q f ≡ true → AreColours n q f
colours_from n q f e =
    let parts = and_parts (length f == n) (list_all (λ y. nat_lt y q) f) e in
    let below = AllPass-from_list_all (λ y. nat_lt y q) f parts.1 in
    (eqb-true (length f) n parts.0, λ k p lt. ltb-true (get_or f k p) q (below k p lt))

pub colours_test : (n q : ℕ) (f : List ℕ) → AreColours n q f → are_colours n q f ≡ true
colours_test n q f colours =
    and_from (length f == n) (list_all (λ y. nat_lt y q) f) (eq-eqb (length f) n colours.0)
    (list_all-from_AllPass (λ y. nat_lt y q) f (λ k p lt. lt-ltb (get_or f k p) q (colours.1 k p lt)))

pub coloured : (t : Table) (d : Diagram) (f : List ℕ) → is_colouring t d f ≡ true → IsColouring t d f
coloured t d f e =
    let parts = and_parts (are_colours (size d) t.order f) (list_all (closes t d f) (range_with_len 0 (size d))) e in
    let rows = AllPass-from_list_all (closes t d f) (range_with_len 0 (size d)) parts.1 in
    record {
      colours_are = colours_from (size d) t.order f parts.0;
      rows = λ r lt. eqb-true (walk t d f r) (get_or f (right d r) 0)
          (ap (closes t d f) (sym (get_or-range_with_len 0 (size d) r 0 lt ∙ omega arith)) ∙ rows r 0 (omega (arith, lt, length-range_with_len 0 (size d))));
    }

pub colouring : (t : Table) (d : Diagram) (f : List ℕ) → IsColouring t d f → is_colouring t d f ≡ true
colouring t d f c =
    and_from (are_colours (size d) t.order f) (list_all (closes t d f) (range_with_len 0 (size d)))
    (colours_test (size d) t.order f c.colours_are)
    (all_range (closes t d f) (size d) (λ r lt. eq-eqb (walk t d f r) (get_or f (right d r) 0) (c.rows r lt)))
