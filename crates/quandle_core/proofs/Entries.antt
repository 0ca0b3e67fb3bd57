-- Reading a table that a formula gives.
use Rattle.std.proofs.Common.{◌≡◌, ◌<◌, ◌+◌, ◌*◌, ◌/◌, ◌%◌, ◌∙◌, ◌++◌, [], ◌∷◌, sym, ℕ, zero, suc, List, map, length, get_or, ap, arith}
use Rattle.std.specs.List.{range_with_len}
use Rattle.std.proofs.lemmas.List.FromFn.{get_or-map-range_with_len, length-map-range_with_len, map-range_with_len_more, fill_by_all}
use Rattle.std.proofs.lemmas.Nat.{div-mul-add, mod-mul-add, mul-add-lt, mod_below, div-add-mod'}
use Rattle.std.proofs.Math.Nat.{div-lt_iff_lt-mul}
use Rattle.quandle_core.specs.Quandle.{Table}
use Rattle.quandle_core.specs.Tables.{table_of}

-- the entry in row x and column y
pub entry : (n : ℕ) (f : ℕ → ℕ → ℕ) (x y : ℕ) → x < n → y < n → get_or (table_of n f).entries (x * n + y) 0 ≡ f x y
entry n f x y at within =
    let lt : x * n + y < n * n = mul-add-lt x n y n at within in
    get_or-map-range_with_len (λ k. f (k / n) (k % n)) 0 (n * n) (x * n + y) (x * n + y) 0 lt (omega arith)
    ∙ (ap (λ a. f a ((x * n + y) % n)) (div-mul-add x n y within) ∙ ap (f x) (mod-mul-add x n y within))

pub length_entries : (n : ℕ) (f : ℕ → ℕ → ℕ) → length (table_of n f).entries ≡ n * n
length_entries n f = length-map-range_with_len (λ k. f (k / n) (k % n)) 0 (n * n)

above_zero : (n k : ℕ) → k < n * n → 0 < n
above_zero zero k lt = absurd (omega arith)
above_zero (suc n) k lt = omega arith

-- a square list with the entries of an operation is its table
pub entries_are : (n : ℕ) (f : ℕ → ℕ → ℕ) (list : List ℕ) → length list ≡ n * n → ((x y : ℕ) → x < n → y < n → get_or list (x * n + y) 0 ≡ f x y)
    → list ≡ (table_of n f).entries
entries_are n f list square each =
    fill_by_all (λ k. f (k / n) (k % n)) list (n * n) 0 square
    (λ k lt.
    let some : 0 < n = above_zero n k lt in
    ap (λ (j : ℕ). get_or list j 0) (sym (div-add-mod' k n)) ∙ each (k / n) (k % n) ((div-lt_iff_lt-mul {k = n} some).1 lt) (mod_below k n some))

pub table_is : (n : ℕ) (f : ℕ → ℕ → ℕ) (list : List ℕ) → length list ≡ n * n → ((x y : ℕ) → x < n → y < n → get_or list (x * n + y) 0 ≡ f x y)
    → table_of n f ≡ record { order = n; entries = list }
table_is n f list square each = ap (λ (es : List ℕ). let t : Table = record { order = n; entries = es } in t) (sym (entries_are n f list square each))

-- two operations that agree below n have one table
pub same_table : (n : ℕ) (f g : ℕ → ℕ → ℕ) → ((x y : ℕ) → x < n → y < n → f x y ≡ g x y) → table_of n f ≡ table_of n g
same_table n f g same = table_is n f (table_of n g).entries (length_entries n g) (λ x y at within. entry n g x y at within ∙ sym (same x y at within))

-- one entry more of a table
pub entries_more : (f : ℕ → ℕ) (list longer : List ℕ) (k y : ℕ) → list ≡ map f (range_with_len 0 k) → longer ≡ list ++ y ∷ [] → y ≡ f k
    → longer ≡ map f (range_with_len 0 (k + 1))
entries_more f list longer k y so_far is y_is =
    is ∙ (ap (λ (xs : List ℕ). xs ++ y ∷ []) so_far
    ∙ (ap (λ (z : ℕ). map f (range_with_len 0 k) ++ z ∷ []) y_is ∙ sym (map-range_with_len_more f 0 k k (omega arith))))
