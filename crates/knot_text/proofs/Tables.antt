-- The rows of a square table, and its entries.
use Rattle.std.proofs.Common.{◌≡◌, ℕ, zero, suc, ◌<◌, ◌≤◌, ◌+◌, ◌*◌, List, [], ◌∷◌, ◌++◌, length, map, take, drop, sym, ap, ap₂, subst, ◌∙◌, arith}
use Rattle.std.specs.List.{AllByRecursion, flat_map, range_with_len}
use Rattle.std.proofs.Math.Seq.{take-add}
use Rattle.std.proofs.lemmas.List.{get_or-drop, get_or-take, length-take, length-drop, take_all, append-nil, drop-drop}
use Rattle.std.proofs.lemmas.List.Concat.{flat_map-append}
use Rattle.std.proofs.lemmas.List.FromFn.{fill_by_all}
use Rattle.grid_core.proofs.OneEach.{range_more}
use Rattle.quandle_core.specs.Quandle.{Table, over}

-- row x
abbrev pub row : Table → ℕ → List ℕ
row t x = map (over t x) (range_with_len 0 t.order)

-- what holds of each number of a range holds of all
all_range : (P : ℕ → Type 0) (f : ℕ → ℕ) (a n : ℕ) → ((y : ℕ) → a ≤ y → y < a + n → P (f y)) → AllByRecursion P (map f (range_with_len a n))
all_range P f a zero each = tt
all_range P f a (suc n) each = (each a (omega arith) (omega arith), all_range P f (a + 1) n (λ y low high. each y (omega arith) (omega arith)))

-- its numbers lie below a bound
abbrev pub IsWithin : Table → ℕ → Type 0
IsWithin t bound = (x y : ℕ) → x < t.order → y < t.order → over t x y < bound

pub row_below : (t : Table) (bound x : ℕ) → IsWithin t bound → x < t.order → AllByRecursion (λ k. k < bound) (row t x)
row_below t bound x within lt = all_range (λ k. k < bound) (over t x) 0 t.order (λ y low high. within x y lt (omega arith))

-- a row is a slice of the entries
pub row_slice : (t : Table) (x : ℕ) → x * t.order + t.order ≤ length t.entries → row t x ≡ take t.order (drop (x * t.order) t.entries)
row_slice t x fits =
    let n = t.order in
    let slice = take n (drop (x * n) t.entries) in
    let len : length slice ≡ n = omega (arith, length-take n (drop (x * n) t.entries), length-drop (x * n) t.entries) in
    sym (fill_by_all (over t x) slice n 0 len (λ k lt. get_or-take n (drop (x * n) t.entries) k 0 lt ∙ get_or-drop (x * n) t.entries k 0))

-- rows one behind the other are a slice too
pub rows_slice : (t : Table) (a k : ℕ) → (a + k) * t.order ≤ length t.entries
    → flat_map (row t) (range_with_len a k) ≡ take (k * t.order) (drop (a * t.order) t.entries)
rows_slice t a zero fits = let e : 0 * t.order ≡ 0 = omega arith in ap (λ (j : ℕ). take j (drop (a * t.order) t.entries)) (sym e)
rows_slice t a (suc k) fits =
    let n = t.order in
    let tail = drop (a * n) t.entries in
    let sum : (a + suc k) * n ≡ a * n + n + k * n = omega arith in
    let next : a + 1 + k ≡ a + suc k = omega arith in
    let within : (a + 1 + k) * n ≤ length t.entries = subst (λ (j : ℕ). j * n ≤ length t.entries) (sym next) fits in
    let first = row_slice t a (omega (arith, sum, fits)) in
    let rest = rows_slice t (a + 1) k within in
    let step : (a + 1) * n ≡ a * n + n = omega arith in
    let dropped : drop ((a + 1) * n) t.entries ≡ drop n tail = ap (λ (j : ℕ). drop j t.entries) step ∙ sym (drop-drop n (a * n) t.entries) in
    let count : n + k * n ≡ suc k * n = omega arith in
    ap₂ (λ (xs ys : List ℕ). xs ++ ys) first (rest ∙ ap (take (k * n)) dropped) ∙ sym (take-add n (k * n) tail) ∙ ap (λ (j : ℕ). take j tail) count

pub rows_all : (t : Table) → length t.entries ≡ t.order * t.order → flat_map (row t) (range_with_len 0 t.order) ≡ t.entries
rows_all t square =
    let all : (0 + t.order) * t.order ≤ length t.entries = omega (arith, square) in
    let start : 0 * t.order ≡ 0 = omega arith in
    rows_slice t 0 t.order all ∙ ap (λ (j : ℕ). take (t.order * t.order) (drop j t.entries)) start
    ∙ take_all (t.order * t.order) t.entries (omega (arith, square))

-- the entries are the rows but the last, and the last
pub rows_last : (t : Table) (k : ℕ) → length t.entries ≡ t.order * t.order → t.order ≡ suc k
    → flat_map (row t) (range_with_len 0 k) ++ row t k ≡ t.entries
rows_last t k square size =
    let last : 0 + k ≡ k = omega arith in
    let longer : range_with_len 0 t.order ≡ range_with_len 0 k ++ k ∷ [] =
    ap (range_with_len 0) size ∙ range_more k 0 ∙ ap (λ (j : ℕ). range_with_len 0 k ++ j ∷ []) last in
    ap (λ (r : List ℕ). flat_map (row t) (range_with_len 0 k) ++ r) (sym (append-nil (row t k)))
    ∙ sym (flat_map-append (row t) (range_with_len 0 k) (k ∷ []))
    ∙ ap (flat_map (row t)) (sym longer) ∙ rows_all t square
