-- The columns of an operation, one behind the other.
use Rattle.std.proofs.Common.{◌≡◌, ◌<◌, ◌+◌, ◌*◌, ◌==◌, ◌∙◌, ℕ, List, false, length, refl, sym, ap, arith}
use Rattle.std.proofs.lemmas.Bool.{eq-eqb, both_ways}
use Rattle.std.proofs.lemmas.Nat.{mul-add-lt}
use Rattle.quandle_core.specs.Quandle.{Table, IsQuandle, over, back}
use Rattle.quandle_core.specs.Tables.{table_of}
use Rattle.quandle_core.specs.Columns.{cell_at, operation_columns}
use Rattle.quandle_core.proofs.Entries.{entry, entries_are, table_is, same_table, length_entries}

pub column_cell : (n : ℕ) (f : ℕ → ℕ → ℕ) (x y : ℕ) → x < n → y < n → cell_at n (operation_columns n f) x y ≡ f x y
column_cell n f x y at by_y = entry n (λ a b. f b a) y x by_y at

pub same_columns : (n : ℕ) (f g : ℕ → ℕ → ℕ) → ((x y : ℕ) → x < n → y < n → f x y ≡ g x y) → operation_columns n f ≡ operation_columns n g
same_columns n f g same = ap (λ (t : Table). t.entries) (same_table n (λ a b. f b a) (λ a b. g b a) (λ a b at by_b. same b a by_b at))

-- each place of a square of columns lies inside
pub inside_columns : (n : ℕ) (f : ℕ → ℕ → ℕ) (cells : List ℕ) → cells ≡ operation_columns n f → (x y : ℕ) → x < n → y < n → y * n + x < length cells
inside_columns n f cells is x y at by_y =
    let lt : y * n + x < n * n = mul-add-lt y n x n by_y at in
    let long : length cells ≡ n * n = ap (λ (xs : List ℕ). length xs) is ∙ length_entries n (λ a b. f b a) in
    omega (arith, lt, long)

-- the table of the columns of a table's operation is the table
pub table_again : (t : Table) → IsQuandle t → (cells : List ℕ) → cells ≡ operation_columns t.order (over t) → table_of t.order (cell_at t.order cells) ≡ t
table_again t q cells is =
    table_is t.order (cell_at t.order cells) t.entries q.square
    (λ x y at by_y. sym (ap (λ (xs : List ℕ). cell_at t.order xs x y) is ∙ column_cell t.order (over t) x y at by_y))

pub columns_again : (t : Table) (cells : List ℕ) → cells ≡ operation_columns t.order (over t) → cells ≡ operation_columns t.order (cell_at t.order cells)
columns_again t cells is =
    is ∙ same_columns t.order (over t) (cell_at t.order cells)
    (λ x y at by_y. sym (ap (λ (xs : List ℕ). cell_at t.order xs x y) is ∙ column_cell t.order (over t) x y at by_y))

-- the one colour that y takes to x is x ◁ y
pub back_found : (t : Table) → IsQuandle t → (x y z : ℕ) → z < t.order → y < t.order → over t z y ≡ x → z ≡ back t x y
back_found t q x y z at by_y is = sym (q.back_over z y at by_y) ∙ ap (λ w. back t w y) is

-- some colour is
pub back_missed : (t : Table) → IsQuandle t → (x y : ℕ) → x < t.order → y < t.order → ((k : ℕ) → k < t.order → (over t k y == x) ≡ false) → back t x y ≡ t.order
back_missed t q x y at by_y missed =
    absurd (both_ways (over t (back t x y) y == x) (missed (back t x y) (q.back_within x y at by_y))
    (eq-eqb (over t (back t x y) y) x (q.over_back x y at by_y)))

-- the entries of a table's operation are those of the table
pub entries_again : (t : Table) (n : ℕ) → IsQuandle t → n ≡ t.order → (table_of n (over t)).entries ≡ t.entries
entries_again t n q same =
    ap (λ (k : ℕ). (table_of k (over t)).entries) same ∙ sym (entries_are t.order (over t) t.entries q.square (λ x y at by_y. refl))
