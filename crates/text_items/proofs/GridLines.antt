-- The lines of a grid, by numbers that were cut down to 255.
use Rattle.std.proofs.Common.{◌≡◌, ℕ, ◌<◌, ◌≤◌, not, List, [], ◌∷◌, length, map, Bool, true, false, Option, Some, None, Ok, Err, refl, sym}
use Rattle.std.proofs.Common.{ap, ◌∙◌, arith, nat_lt, nat_le, codes}
use Rattle.std.specs.Prelude.{is_none}
use Rattle.std.specs.List.{list_all, list_any, range_with_len, AllByRecursion}
use Rattle.std.proofs.lemmas.Bool.{lt-ltb, both_ways, and_left, and_right, and_from, and_parts}
use Rattle.std.proofs.lemmas.List.{length-map}
use Rattle.std.proofs.lemmas.List.Elements.{recursion_from_All}
use Rattle.std.proofs.lemmas.List.Folds.{list_any_none, list_any_at}
use Rattle.std.proofs.lemmas.List.FromFn.{get_or-range_with_len, length-range_with_len}
use Rattle.std.proofs.Common.{zero-add, get_or}
use Rattle.arrayvec.specs.ArrayVec.{ArrayVec}
use Rattle.grid_core.specs.declared.grid.TheConstants.{MAX_SIZE}
use Rattle.grid_core.specs.declared.fault.GridFault.{GridFault}
use Rattle.grid_core.specs.Fault.{first_grid_fault, is_repeated}
use Rattle.grid_core.proofs.Accepted.{accepted_lists}
use Rattle.grid_core.proofs.OneEach.{each_below}
use Rattle.text_lines.specs.Lines.{NumberedLine}
use Rattle.text_items.specs.declared.fault.TextFault.TheVariants.{Malformed}
use Rattle.text_items.specs.Numbers.{low, CutsRead, numbers_behind}
use Rattle.text_items.specs.Grids.{is_one_each, are_rows, x_at, o_at}
use Rattle.text_items.proofs.Cuts.{all_low, same_low}

-- ---- each of 0 to n-1 once

abbrev has_repeat : List ℕ → Bool
has_repeat rows = list_any (λ c. is_repeated rows c) (range_with_len 0 (length rows))

pub repeat_at : (rows : List ℕ) (c : ℕ) → c < length rows → is_repeated rows c ≡ true
    → list_any (λ c. is_repeated rows c) (range_with_len 0 (length rows)) ≡ true
repeat_at rows c lt is =
    let at : get_or (range_with_len 0 (length rows)) c 0 ≡ c = get_or-range_with_len 0 (length rows) c 0 lt ∙ zero-add c in
    list_any_at (λ c. is_repeated rows c) (range_with_len 0 (length rows)) c 0 (omega (arith, length-range_with_len 0 (length rows), lt))
    (ap (λ (k : ℕ). is_repeated rows k) at ∙ is)

pub no_repeat : (rows : List ℕ) → ((k : ℕ) → k < length rows → is_repeated rows k ≡ false)
    → list_any (λ c. is_repeated rows c) (range_with_len 0 (length rows)) ≡ false
no_repeat rows none =
    list_any_none (λ c. is_repeated rows c) (range_with_len 0 (length rows)) (λ k d lt.
    let within : k < length rows = omega (arith, length-range_with_len 0 (length rows), lt) in
    ap (λ (j : ℕ). is_repeated rows j) (get_or-range_with_len 0 (length rows) k d within ∙ zero-add k) ∙ none k within)

one_each_by : (values : List ℕ) → length values ≤ 255 → (t : Bool) → list_all (λ v. nat_lt v (length values)) values ≡ t
    → are_rows (map low values) ≡ are_rows values
one_each_by values short true is = ap are_rows (same_low (length values) values short is)
one_each_by values short false is =
    let len = length-map values low in
    let first : list_all (λ v. nat_lt v (length (map low values))) (map low values) ≡ false =
    ap (λ (n : ℕ). list_all (λ v. nat_lt v n) (map low values)) len ∙ all_low (length values) values short ∙ is in
    and_right (nat_le 2 (length (map low values))) (is_one_each (map low values))
    (and_left (list_all (λ v. nat_lt v (length (map low values))) (map low values)) (not (has_repeat (map low values))) first)
    ∙ sym (and_right (nat_le 2 (length values)) (is_one_each values) (and_left (list_all (λ v. nat_lt v (length values)) values) (not (has_repeat values)) is))

rows_test : (rows values : List ℕ) → rows ≡ map low values → length rows ≤ MAX_SIZE → are_rows rows ≡ are_rows values
rows_test rows values cut short =
    let len : length values ≤ 255 = omega (arith, ap (λ (rs : List ℕ). length rs) cut, length-map values low) in
    ap are_rows cut ∙ one_each_by values len (list_all (λ v. nat_lt v (length values)) values) refl

-- rows that pass are all the numbers as they stand
rows_same : (rows values : List ℕ) → rows ≡ map low values → length rows ≤ MAX_SIZE → are_rows values ≡ true → rows ≡ values
rows_same rows values cut short is =
    let len : length values ≤ 255 = omega (arith, ap (λ (rs : List ℕ). length rs) cut, length-map values low) in
    let h = and_parts (nat_le 2 (length values)) (is_one_each values) is in
    let g = and_parts (list_all (λ v. nat_lt v (length values)) values) (not (has_repeat values)) h.1 in
    cut ∙ same_low (length values) values len g.0

-- ---- the rows of the Xs

pub x_bad : (rows : ArrayVec ℕ) (line : NumberedLine) → length rows.items ≤ MAX_SIZE → CutsRead rows (numbers_behind (codes "x") line)
    → are_rows rows.items ≡ false → x_at line ≡ Err (Malformed line.number)
unfolding x_at
x_bad rows line short read bad =
    let test : are_rows read.values ≡ false = sym (rows_test rows.items read.values read.cut short) ∙ bad in
    rw (read.is, test) refl

pub x_good : (rows : ArrayVec ℕ) (line : NumberedLine) → length rows.items ≤ MAX_SIZE → CutsRead rows (numbers_behind (codes "x") line)
    → are_rows rows.items ≡ true → x_at line ≡ Ok rows.items
unfolding x_at
x_good rows line short read good =
    let test : are_rows read.values ≡ true = sym (rows_test rows.items read.values read.cut short) ∙ good in
    let one : x_at line ≡ Ok read.values = rw (read.is, test) refl in
    one ∙ ap (λ (vs : List ℕ). Ok vs) (sym (rows_same rows.items read.values read.cut short test))

-- ---- the rows of the Os

all_test : (q : ℕ) (vs : List ℕ) → AllByRecursion (λ v. v < q) vs → list_all (λ v. nat_lt v q) vs ≡ true
all_test q [] all = refl
all_test q (v ∷ vs) all = and_from (nat_lt v q) (list_all (λ v. nat_lt v q) vs) (lt-ltb v q all.0) (all_test q vs all.1)

-- a row that is not below the size is a fault
outside_fault : (x values : List ℕ) (f : Option GridFault) → first_grid_fault x values ≡ f → list_all (λ v. nat_lt v (length x)) values ≡ false
    → is_none f ≡ false
outside_fault x values (Some e) is bad = refl
outside_fault x values None is bad =
    let grid = accepted_lists x values is in
    let all : list_all (λ v. nat_lt v (length x)) values ≡ true =
    all_test (length x) values (recursion_from_All (λ v. v < length x) values (each_below (length x) values grid.rings)) in
    absurd (both_ways (list_all (λ v. nat_lt v (length x)) values) bad all)

pub o_outside : (rows : ArrayVec ℕ) (x : List ℕ) (line : NumberedLine) → length x ≤ MAX_SIZE → CutsRead rows (numbers_behind (codes "o") line)
    → list_all (λ v. nat_lt v (length x)) rows.items ≡ false → o_at x line ≡ Err (Malformed line.number)
unfolding o_at
o_outside rows x line short read bad =
    let out : list_all (λ v. nat_lt v (length x)) read.values ≡ false =
    sym (ap (list_all (λ v. nat_lt v (length x))) read.cut ∙ all_low (length x) read.values (omega arith)) ∙ bad in
    let test : is_none (first_grid_fault x read.values) ≡ false = outside_fault x read.values (first_grid_fault x read.values) refl out in
    rw (read.is, test) refl

-- rows inside are all the numbers as they stand
inside_same : (rows : ArrayVec ℕ) (x : List ℕ) (line : NumberedLine) (read : CutsRead rows (numbers_behind (codes "o") line)) → length x ≤ MAX_SIZE
    → list_all (λ v. nat_lt v (length x)) rows.items ≡ true → rows.items ≡ read.values
inside_same rows x line read short good =
    let all : list_all (λ v. nat_lt v (length x)) read.values ≡ true =
    sym (ap (list_all (λ v. nat_lt v (length x))) read.cut ∙ all_low (length x) read.values (omega arith)) ∙ good in
    read.cut ∙ same_low (length x) read.values (omega arith) all

pub o_bad : (rows : ArrayVec ℕ) (x : List ℕ) (line : NumberedLine) (fault : GridFault) → length x ≤ MAX_SIZE
    → CutsRead rows (numbers_behind (codes "o") line) → list_all (λ v. nat_lt v (length x)) rows.items ≡ true → first_grid_fault x rows.items ≡ Some fault
    → o_at x line ≡ Err (Malformed line.number)
unfolding o_at
o_bad rows x line fault short read good bad =
    let same = inside_same rows x line read short good in
    let test : is_none (first_grid_fault x read.values) ≡ false =
    ap (λ (vs : List ℕ). is_none (first_grid_fault x vs)) (sym same) ∙ ap (λ (f : Option GridFault). is_none f) bad in
    rw (read.is, test) refl

pub o_good : (rows : ArrayVec ℕ) (x : List ℕ) (line : NumberedLine) → length x ≤ MAX_SIZE → CutsRead rows (numbers_behind (codes "o") line)
    → list_all (λ v. nat_lt v (length x)) rows.items ≡ true → first_grid_fault x rows.items ≡ None
    → o_at x line ≡ Ok (record { x = x; o = rows.items })
unfolding o_at
o_good rows x line short read good none =
    let same = inside_same rows x line read short good in
    let test : is_none (first_grid_fault x read.values) ≡ true =
    ap (λ (vs : List ℕ). is_none (first_grid_fault x vs)) (sym same) ∙ ap (λ (f : Option GridFault). is_none f) none in
    let one : o_at x line ≡ Ok (record { x = x; o = read.values }) = rw (read.is, test) refl in
    one ∙ ap (λ (vs : List ℕ). Ok (record { x = x; o = vs })) (sym same)
