-- A change at the open column of a position, by its place in the list.
use Rattle.std.proofs.Common.{◌≡◌, ◌<◌, ◌+◌, ◌∷◌, ◌++◌, ◌∙◌, [], ℕ, suc, List, length, take, drop, set, get_or, arith, sym, refl, ap}
use Rattle.std.proofs.Common.{append_assoc, length-append, add-one}
use Rattle.std.specs.List.{insert, refill}
use Rattle.std.proofs.Math.Seq.{drop-cons}
use Rattle.std.proofs.lemmas.List.{take-append-drop, take_all, take_more, set_split, drop_all, append-nil, length-set}
use Rattle.braid_closure.specs.declared.columns.Column.{Column}
use Rattle.braid_closure.specs.Columns.{begun, ended, open_columns, at_position, ColumnStandsAt}
use Rattle.braid_closure.proofs.Positions.{at_split, open_append, open_here}

parted : (columns : List Column) (place : ℕ) (d : Column) → place < length columns
    → columns ≡ take place columns ++ get_or columns place d ∷ drop (suc place) columns
parted columns place d lt = sym (take-append-drop place columns) ∙ ap (λ (zs : List Column). take place columns ++ zs) (drop-cons columns place d lt)

changed : (k place : ℕ) (columns : List Column) (d : Column) (change : Column → List Column) → ColumnStandsAt k place columns d
    → at_position k change columns ≡ take place columns ++ (change (get_or columns place d) ++ drop (suc place) columns)
changed k place columns d change at =
    ap (at_position k change) (parted columns place d at.inside)
    ∙ at_split k change (take place columns) (get_or columns place d) (drop (suc place) columns) at.stands_open at.before

-- how many columns are open after a change
pub open_changed : (k place : ℕ) (columns : List Column) (d : Column) (change : Column → List Column) → ColumnStandsAt k place columns d
    → length (open_columns (at_position k change columns)) + 1 ≡ length (open_columns columns) + length (open_columns (change (get_or columns place d)))
open_changed k place columns d change at =
    let front = take place columns in
    let here = get_or columns place d in
    let back = drop (suc place) columns in
    let after = ap (λ (zs : List Column). length (open_columns zs)) (changed k place columns d change at) in
    let after_parts = ap length (open_append front (change here ++ back)) ∙ length-append (open_columns front) (open_columns (change here ++ back)) in
    let after_back = ap length (open_append (change here) back) ∙ length-append (open_columns (change here)) (open_columns back) in
    let before = ap (λ (zs : List Column). length (open_columns zs)) (parted columns place d at.inside) in
    let before_parts = ap length (open_append front (here ∷ back)) ∙ length-append (open_columns front) (open_columns (here ∷ back)) in
    let one = ap length (open_here here back at.stands_open) in
    omega arith

pub insert_left : (k place r : ℕ) (columns : List Column) (d : Column) → ColumnStandsAt k place columns d
    → insert columns place (begun r) ≡ at_position k (λ c. begun r ∷ c ∷ []) columns
insert_left k place r columns d at =
    ap (λ (zs : List Column). take place columns ++ begun r ∷ zs) (drop-cons columns place d at.inside)
    ∙ sym (changed k place columns d (λ c. begun r ∷ c ∷ []) at)

pub insert_right : (k place r : ℕ) (columns : List Column) (d : Column) → ColumnStandsAt k place columns d
    → insert columns (place + 1) (begun r) ≡ at_position k (λ c. c ∷ begun r ∷ []) columns
insert_right k place r columns d at =
    ap (λ (zs : List Column). zs ++ begun r ∷ drop (place + 1) columns) (take_more columns place d at.inside)
    ∙ (append_assoc (take place columns) (get_or columns place d ∷ []) (begun r ∷ drop (place + 1) columns)
    ∙ (ap (λ (z : ℕ). take place columns ++ get_or columns place d ∷ begun r ∷ drop z columns) (add-one place)
    ∙ sym (changed k place columns d (λ c. c ∷ begun r ∷ []) at)))

pub set_ended : (k place r : ℕ) (columns : List Column) (d : Column) → ColumnStandsAt k place columns d
    → set columns place (ended r (get_or columns place d)) ≡ at_position k (λ c. ended r c ∷ []) columns
set_ended k place r columns d at =
    set_split columns place (ended r (get_or columns place d)) at.inside
    ∙ sym (changed k place columns d (λ c. ended r c ∷ []) at)

-- a list written back whole
pub refilled : (n : ℕ) (old after : List Column) → length old ≡ n → length after ≡ n → refill n old after ≡ after
refilled n old after old_is after_is =
    ap (λ (zs : List Column). take n (after ++ zs)) (drop_all (length after) old (omega arith))
    ∙ (ap (take n) (append-nil after) ∙ take_all n after (omega arith))

-- what `end` writes, and the numbers of open columns
pub end_columns : (k place r : ℕ) (columns read written : List Column) (d : Column) → read ≡ columns → written ≡ columns → ColumnStandsAt k place columns d
    → refill (length columns) columns (set written place (ended r (get_or read place d))) ≡ at_position k (λ c. ended r c ∷ []) columns
end_columns k place r columns read written d read_is written_is at =
    ap (λ (zs : List Column). refill (length columns) columns (set written place (ended r (get_or zs place d)))) read_is
    ∙ (ap (λ (zs : List Column). refill (length columns) columns (set zs place (ended r (get_or columns place d)))) written_is
    ∙ (refilled (length columns) columns (set columns place (ended r (get_or columns place d))) refl
    (length-set columns place (ended r (get_or columns place d)))
    ∙ set_ended k place r columns d at))

pub end_open : (k place r : ℕ) (columns after : List Column) (d : Column) → after ≡ at_position k (λ c. ended r c ∷ []) columns
    → ColumnStandsAt k place columns d → length (open_columns after) + 1 ≡ length (open_columns columns)
end_open k place r columns after d is at =
    let count = open_changed k place columns d (λ c. ended r c ∷ []) at in
    let same = ap (λ (zs : List Column). length (open_columns zs)) is in
    omega arith

pub begin_left_open : (k place r : ℕ) (columns after : List Column) (d : Column) → after ≡ at_position k (λ c. begun r ∷ c ∷ []) columns
    → ColumnStandsAt k place columns d → length (open_columns after) ≡ length (open_columns columns) + 1
begin_left_open k place r columns after d is at =
    let count = open_changed k place columns d (λ c. begun r ∷ c ∷ []) at in
    let same = ap (λ (zs : List Column). length (open_columns zs)) is in
    let two = ap length (open_here (begun r) (get_or columns place d ∷ []) refl) in
    let one = ap length (open_here (get_or columns place d) [] at.stands_open) in
    omega arith

pub begin_right_open : (k place r : ℕ) (columns after : List Column) (d : Column) → after ≡ at_position k (λ c. c ∷ begun r ∷ []) columns
    → ColumnStandsAt k place columns d → length (open_columns after) ≡ length (open_columns columns) + 1
begin_right_open k place r columns after d is at =
    let count = open_changed k place columns d (λ c. c ∷ begun r ∷ []) at in
    let same = ap (λ (zs : List Column). length (open_columns zs)) is in
    let two = ap length (open_here (get_or columns place d) (begun r ∷ []) at.stands_open) in
    let one = ap length (open_here (begun r) [] refl) in
    omega arith
