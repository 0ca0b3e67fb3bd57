-- Numbers by their digits.
use Rattle.std.proofs.Common.{◌≡◌, ◌<◌, ◌≤◌, ◌+◌, ◌-◌, ◌*◌, ◌/◌, ◌%◌, ◌^◌, ◌++◌, ◌∷◌, [], ◌∙◌, ℕ, List, All, length, get_or, take, drop, map, replicate, arith}
use Rattle.std.proofs.Common.{sym, refl, ap, ap₂, subst, length-append, add-one, zero-add}
use Rattle.std.proofs.Math.Nat.{pow-le-pow_right}
use Rattle.std.proofs.lemmas.Nat.{div-mul-add, mod-mul-add}
use Rattle.std.proofs.lemmas.List.{take-append-drop, length-take, length-drop, take_more, map-append, length-replicate}
use Rattle.std.proofs.lemmas.List.Elements.{All-append, All-replicate, All-take, All-drop, All-map}
use Rattle.std.specs.List.{range_with_len}
use Rattle.std.specs.declared.cmp.Ordering.TheVariants.{Equal}
use Rattle.std.specs.Ordering.{nat_cmp, ordering_then}
use Rattle.std.specs.Cmp.Lexicographic.{slice_cmp}
use Rattle.grid_core.proofs.OneEach.{range_more}
use Rattle.grid_core.specs.declared.grid.TheConstants.{MAX_SIZE}
use Rattle.grid_moves.specs.Shift.{shifted}
use Rattle.grid_moves.proofs.Shifted.{shifted_below}
use Rattle.grid_keys.specs.declared.key.TheConstants.{BASE, DIGIT_BITS, WORD_COLUMNS, WORDS}
use Rattle.grid_keys.specs.Key.{key_number, filled}
use Rattle.grid_keys.proofs.Ordered.{nat_cmp_same}
use Rattle.grid_keys.proofs.NumbersTo.{AreDigitsTo, number_to-append, number_to-below, number_to-push, number_to-filled, number_to-order, power_of_two}

abbrev pub AreDigits : List ℕ → Type 0
AreDigits digits = AreDigitsTo BASE digits

pub number-append : (xs ys : List ℕ) → key_number (xs ++ ys) ≡ key_number xs * BASE ^ length ys + key_number ys
number-append = number_to-append BASE

pub number-below : (digits : List ℕ) → AreDigits digits → key_number digits < BASE ^ length digits
number-below digits all = number_to-below BASE digits (omega arith) all

pub number-push : (xs : List ℕ) (x : ℕ) → key_number (xs ++ x ∷ []) ≡ key_number xs * BASE + x
number-push = number_to-push BASE

pub number-filled : (xs : List ℕ) (k : ℕ) → key_number (xs ++ replicate k 0) ≡ key_number xs * BASE ^ k
number-filled = number_to-filled BASE

-- the base as a power of two
pub base_bits : (k : ℕ) → BASE ^ k ≡ 2 ^ (DIGIT_BITS * k)
base_bits k = power_of_two BASE DIGIT_BITS k refl

-- the digit at a place
pub number-digit : (xs : List ℕ) (i k : ℕ) → AreDigits xs → i + 1 + k ≡ length xs → key_number xs / BASE ^ k % BASE ≡ get_or xs i 0
number-digit xs i k all long =
    let lt : i < length xs = omega (arith, long) in
    let after : length (drop (i + 1) xs) ≡ k = omega (arith, length-drop (i + 1) xs, long) in
    let low : key_number (drop (i + 1) xs) < BASE ^ k =
    subst (λ (z : ℕ). key_number (drop (i + 1) xs) < BASE ^ z) after (number-below (drop (i + 1) xs) (All-drop (λ digit. digit < BASE) (i + 1) xs all)) in
    let split : key_number xs ≡ (key_number (take i xs) * BASE + get_or xs i 0) * BASE ^ k + key_number (drop (i + 1) xs) =
    ap key_number (sym (take-append-drop (i + 1) xs))
    ∙ number-append (take (i + 1) xs) (drop (i + 1) xs)
    ∙ ap₂ (λ (z w : ℕ). z * BASE ^ w + key_number (drop (i + 1) xs)) (ap key_number (take_more xs i 0 lt) ∙ number-push (take i xs) (get_or xs i 0)) after in
    ap (λ (z : ℕ). z / BASE ^ k % BASE) split
    ∙ ap (λ (z : ℕ). z % BASE) (div-mul-add (key_number (take i xs) * BASE + get_or xs i 0) (BASE ^ k) (key_number (drop (i + 1) xs)) low)
    ∙ mod-mul-add (key_number (take i xs)) BASE (get_or xs i 0) (all i 0 lt)

-- filled lists
pub length-filled : (rows : List ℕ) → length rows ≤ MAX_SIZE → length (filled rows) ≡ WORDS * WORD_COLUMNS
length-filled rows le =
    let more : ℕ = WORDS * WORD_COLUMNS - length rows in
    omega (arith, length-append rows (replicate more 0), length-replicate {A = ℕ} more 0, le)

pub filled-digits : (rows : List ℕ) → AreDigits rows → AreDigits (filled rows)
filled-digits rows all =
    let more : ℕ = WORDS * WORD_COLUMNS - length rows in
    All-append (λ digit. digit < BASE) rows (replicate more 0) all (All-replicate (λ digit. digit < BASE) more 0 (omega arith))

-- one more row in the making
pub number_more : (rows : List ℕ) (i : ℕ) → i < length rows → key_number (take (i + 1) rows) ≡ key_number (take i rows) * BASE + get_or rows i 0
number_more rows i lt = ap key_number (take_more rows i 0 lt) ∙ number-push (take i rows) (get_or rows i 0)

pub number_fits : (rows : List ℕ) (i : ℕ) → AreDigits rows → length rows ≤ WORD_COLUMNS → i < length rows
    → key_number (take i rows) * BASE + get_or rows i 0 < 2 ^ 128
number_fits rows i all le within =
    let low = number-below (take (i + 1) rows) (All-take (λ digit. digit < BASE) (i + 1) rows all) in
    let high =
    pow-le-pow_right {n = BASE} (omega arith) {i = length (take (i + 1) rows)} {j = WORD_COLUMNS} (omega (arith, length-take (i + 1) rows, within, le)) in
    omega (arith, number_more rows i within, low, high)

-- rows that are lowered round the circle
pub lowered_rows : (n b : ℕ) (rows : List ℕ) → n ≤ MAX_SIZE → b < n → All (λ r. r < n) rows → AreDigits (map (shifted n b) rows)
lowered_rows n b rows le lt inside =
    All-map (λ digit. digit < BASE) (shifted n b) rows (λ k d within. omega (arith, shifted_below n b (get_or rows k d) lt (inside k d within), le))

-- one more digit in the making
pub digits_more : (f : ℕ → ℕ) (n : ℕ) → map f (range_with_len 0 (n + 1)) ≡ map f (range_with_len 0 n) ++ f n ∷ []
digits_more f n =
    ap (λ (z : ℕ). map f (range_with_len 0 z)) (add-one n) ∙ ap (λ zs. map f zs) (range_more n 0) ∙ map-append f (range_with_len 0 n) ((0 + n) ∷ [])
    ∙ ap (λ (z : ℕ). map f (range_with_len 0 n) ++ f z ∷ []) (zero-add n)

-- numbers with as many digits are in the order of their lists
pub number-order : (xs ys : List ℕ) → length xs ≡ length ys → AreDigits xs → AreDigits ys
    → nat_cmp (key_number xs) (key_number ys) ≡ slice_cmp nat_cmp xs ys
number-order xs ys same ax ay = number_to-order BASE xs ys (omega arith) same ax ay

pub slice_cmp-append : (xs ys zs : List ℕ) → length xs ≡ length ys → slice_cmp nat_cmp (xs ++ zs) (ys ++ zs) ≡ slice_cmp nat_cmp xs ys
slice_cmp-append [] [] zs same = tied zs
  where
    tied : (zs : List ℕ) → slice_cmp nat_cmp zs zs ≡ Equal
    tied [] = refl
    tied (z ∷ zs) = ap (λ o. ordering_then o (slice_cmp nat_cmp zs zs)) (nat_cmp_same z z refl) ∙ tied zs
slice_cmp-append [] (y ∷ ys) zs same = absurd (omega (arith, same))
slice_cmp-append (x ∷ xs) [] zs same = absurd (omega (arith, same))
slice_cmp-append (x ∷ xs) (y ∷ ys) zs same = ap (λ o. ordering_then (nat_cmp x y) o) (slice_cmp-append xs ys zs (omega (arith, same)))
