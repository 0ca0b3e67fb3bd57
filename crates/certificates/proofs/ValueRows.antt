-- The rows of a table of values, of which there are more than the order, and its entries.
use Rattle.std.proofs.Common.{◌≡◌, ℕ, zero, suc, ◌<◌, ◌≤◌, ◌+◌, ◌*◌, List, [], ◌∷◌, ◌++◌, length, map, take, drop, sym, ap, ◌∙◌, arith}
use Rattle.std.specs.List.{AllByRecursion, flat_map, range_with_len}
use Rattle.std.proofs.lemmas.List.{take_all, append-nil}
use Rattle.std.proofs.lemmas.List.Concat.{flat_map-append}
use Rattle.grid_core.proofs.OneEach.{range_more}
use Rattle.quandle_core.specs.Quandle.{Table, over}
use Rattle.knot_text.proofs.Tables.{row, rows_slice}

-- the numbers of so many rows lie below a bound
abbrev pub AreWithin : Table → ℕ → ℕ → Type 0
AreWithin t many bound = (x y : ℕ) → x < many → y < t.order → over t x y < bound

each_below : (f : ℕ → ℕ) (bound a n : ℕ) → ((y : ℕ) → a ≤ y → y < a + n → f y < bound) → AllByRecursion (λ k. k < bound) (map f (range_with_len a n))
each_below f bound a zero each = tt
each_below f bound a (suc n) each = (each a (omega arith) (omega arith), each_below f bound (a + 1) n (λ y low high. each y (omega arith) (omega arith)))

pub value_row_below : (t : Table) (many bound x : ℕ) → AreWithin t many bound → x < many → AllByRecursion (λ k. k < bound) (row t x)
value_row_below t many bound x within lt = each_below (over t x) bound 0 t.order (λ y low high. within x y lt (omega arith))

rows_all : (t : Table) (many : ℕ) → length t.entries ≡ many * t.order → flat_map (row t) (range_with_len 0 many) ≡ t.entries
rows_all t many size =
    let all : (0 + many) * t.order ≤ length t.entries = omega (arith, size) in
    let start : 0 * t.order ≡ 0 = omega arith in
    rows_slice t 0 many all ∙ ap (λ (j : ℕ). take (many * t.order) (drop j t.entries)) start
    ∙ take_all (many * t.order) t.entries (omega (arith, size))

-- the entries are the rows but the last, and the last
pub value_rows_last : (t : Table) (many k : ℕ) → length t.entries ≡ many * t.order → many ≡ suc k
    → flat_map (row t) (range_with_len 0 k) ++ row t k ≡ t.entries
value_rows_last t many k size more =
    let last : 0 + k ≡ k = omega arith in
    let longer : range_with_len 0 many ≡ range_with_len 0 k ++ k ∷ [] =
    ap (range_with_len 0) more ∙ range_more k 0 ∙ ap (λ (j : ℕ). range_with_len 0 k ++ j ∷ []) last in
    ap (λ (r : List ℕ). flat_map (row t) (range_with_len 0 k) ++ r) (sym (append-nil (row t k)))
    ∙ sym (flat_map-append (row t) (range_with_len 0 k) (k ∷ []))
    ∙ ap (flat_map (row t)) (sym longer) ∙ rows_all t many size
