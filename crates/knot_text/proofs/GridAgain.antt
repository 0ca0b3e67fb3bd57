-- A grid that was printed is read again.
use Rattle.std.proofs.Common.{◌≡◌, ℕ, ◌<◌, ◌≤◌, ◌+◌, ◌==◌, not, List, length, map, take, get_or, true, false, Ok, refl, sym, ◌∙◌, arith, codes, nat_le, nat_lt}
use Rattle.std.specs.List.{AllByRecursion, list_all, list_any, range_with_len}
use Rattle.std.specs.Fmt.{decimal}
use Rattle.std.proofs.lemmas.Bool.{le-leb, le-ltb, and_from, not_from_false, ne_eqb}
use Rattle.std.proofs.lemmas.List.{get_or-take, length-take, get_or_default}
use Rattle.std.proofs.lemmas.List.Elements.{recursion_from_All}
use Rattle.std.proofs.lemmas.List.Folds.{list_any_none}
use Rattle.grid_core.specs.declared.grid.TheConstants.{MAX_SIZE}
use Rattle.grid_core.specs.Diagram.{Diagram, IsGrid, IsOneEach}
use Rattle.grid_core.specs.Fault.{is_repeated}
use Rattle.grid_core.proofs.Accepted.{faultless}
use Rattle.grid_core.proofs.OneEach.{IsApart, each_below, each_apart}
use Rattle.text_lines.specs.Lines.{Text}
use Rattle.text_lines.specs.Spelled.{numbered}
use Rattle.text_items.specs.Reading.{next_line}
use Rattle.text_items.specs.Numbers.{numbers_behind}
use Rattle.text_items.specs.Grids.{is_one_each, are_rows, x_at, o_at, grid_item}
use Rattle.knot_text.specs.Printed.{rows_tokens, grid_lines}
use Rattle.text_items.proofs.GridLines.{no_repeat}
use Rattle.knot_text.proofs.StepsAgain.{line_of, lines_before, IsShort, word_again, values_again, none_long, all_below, all_short}

-- a row that differs from all others is not repeated
not_repeated : (rows : List ℕ) (c : ℕ) → IsApart rows → c < length rows → is_repeated rows c ≡ false
not_repeated rows c apart lt =
    list_any_none (λ r. r == get_or rows c 0) (take c rows) (λ k d low.
    let within : k < c = omega (arith, length-take c rows, low) in
    let at : get_or (take c rows) k d ≡ get_or rows k 0 = get_or-take c rows k d within ∙ get_or_default rows k d 0 (omega (arith, within, lt)) in
    ne_eqb (get_or (take c rows) k d) (get_or rows c 0) (λ e.
    let same : k ≡ c = apart k c (omega (arith, within, lt)) lt (sym at ∙ e) in
    omega (arith, same, within)))

rows_below : (n : ℕ) (rows : List ℕ) → IsOneEach n rows → AllByRecursion (λ r. r < n) rows
rows_below n rows each = recursion_from_All (λ r. r < n) rows (each_below n rows each)

pub rows_are : (rows : List ℕ) → 2 ≤ length rows → IsOneEach (length rows) rows → are_rows rows ≡ true
rows_are rows least each =
    let apart = each_apart (length rows) rows each in
    let once : list_any (λ c. is_repeated rows c) (range_with_len 0 (length rows)) ≡ false = no_repeat rows (λ k lt. not_repeated rows k apart lt) in
    let below : list_all (λ r. nat_lt r (length rows)) rows ≡ true = all_below (length rows) rows (rows_below (length rows) rows each) in
    and_from (nat_le 2 (length rows)) (is_one_each rows) (le-leb 2 (length rows) least)
    (and_from (list_all (λ r. nat_lt r (length rows)) rows) (not (list_any (λ c. is_repeated rows c) (range_with_len 0 (length rows)))) below
    (not_from_false (list_any (λ c. is_repeated rows c) (range_with_len 0 (length rows))) once))

rows_again : (letter rows : List ℕ) (n : ℕ) → length rows ≤ MAX_SIZE → AllByRecursion IsShort rows
    → numbers_behind letter (line_of n (rows_tokens letter rows)) ≡ Ok rows
unfolding numbers_behind
rows_again letter rows n fits few =
    let size : nat_lt MAX_SIZE (length rows) ≡ false = le-ltb MAX_SIZE (length rows) fits in
    rw (word_again letter n (map decimal rows), values_again n rows few, size, none_long rows few) refl

x_again : (d : Diagram) (n : ℕ) → IsGrid d → x_at (line_of n (rows_tokens (codes "x") d.x)) ≡ Ok d.x
unfolding x_at
x_again d n grid =
    let few = all_short (length d.x) d.x (omega (arith, grid.most)) (rows_below (length d.x) d.x grid.crosses) in
    rw (rows_again (codes "x") d.x n grid.most few, rows_are d.x grid.least grid.crosses) refl

o_again : (d : Diagram) (n : ℕ) → IsGrid d → o_at d.x (line_of n (rows_tokens (codes "o") d.o)) ≡ Ok d
unfolding o_at
o_again d n grid =
    let few = all_short (length d.x) d.o (omega (arith, grid.most)) (rows_below (length d.x) d.o grid.rings) in
    rw (rows_again (codes "o") d.o n (omega (arith, grid.same, grid.most)) few, faultless d grid) refl

pub grid_again : (n : ℕ) (d : Diagram) (text : Text) → IsGrid d → grid_item (lines_before (numbered n (grid_lines d)) text) ≡ Ok (d, text)
unfolding grid_item next_line
grid_again n d text grid = rw (x_again d (n + 1) grid, o_again d (n + 1 + 1) grid) refl
