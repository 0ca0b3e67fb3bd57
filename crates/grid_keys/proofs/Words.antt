-- The words of the rows of a kind.
use Rattle.std.proofs.Common.{◌≡◌, ◌<◌, ◌≤◌, ◌+◌, ◌-◌, ◌*◌, ◌/◌, ◌%◌, ◌^◌, ◌++◌, ◌∷◌, [], ◌∙◌, ℕ, zero, suc, List, All, length, get_or, take, drop, map}
use Rattle.std.proofs.Common.{replicate, slice_set, fold, arith, sym, refl, ap, ap₂, inl, inr, length-append, add-one, zero-add, min}
use Rattle.std.proofs.Math.Nat.{mul_comm, mod-eq_of_lt}
use Rattle.std.proofs.lemmas.Nat.{pow-add, pow_pos, mul-add-lt}
use Rattle.std.proofs.lemmas.Bool.{cases_lt}
use Rattle.std.proofs.lemmas.List.{take_all, take_more, take-append-drop, length-take, length-drop, length-replicate, length-map, get_or_append_left}
use Rattle.std.proofs.lemmas.List.{ext_get_or, get_or-map, get_or-take, get_or-drop, drop-drop, get_or-replicate}
use Rattle.std.proofs.Math.Seq.{get_or-append_right}
use Rattle.std.proofs.lemmas.List.Elements.{All-take, All-drop, All-append}
use Rattle.std.proofs.lemmas.List.FromFn.{get_or-range_with_len, length-range_with_len}
use Rattle.std.proofs.lemmas.List.Sums.{fold-append}
use Rattle.std.specs.List.{range_with_len}
use Rattle.std.specs.declared.cmp.Ordering.{Ordering}
use Rattle.std.specs.declared.cmp.Ordering.TheVariants.{Less, Equal, Greater}
use Rattle.std.specs.Ordering.{nat_cmp, ordering_then}
use Rattle.std.specs.Cmp.Lexicographic.{slice_cmp}
use Rattle.grid_core.specs.declared.grid.TheConstants.{MAX_SIZE}
use Rattle.grid_keys.specs.Translation.{translated_rows}
use Rattle.grid_keys.specs.declared.key.TheConstants.{BASE, DIGIT_BITS, WORD_COLUMNS, WORDS}
use Rattle.grid_keys.specs.Key.{key_number, filled, words, words_of, digit_at}
use Rattle.grid_keys.proofs.Numbers.{AreDigits, number-below, number-digit, number-filled, number-order, length-filled, filled-digits, base_bits, lowered_rows}
use Rattle.grid_keys.proofs.Numbers.{slice_cmp-append}

-- behind the end of a list nothing is read
past_end : (xs : List ℕ) (i : ℕ) → length xs ≤ i → get_or xs i 0 ≡ 0
past_end [] i le = refl
past_end (x ∷ xs) zero le = absurd (omega (arith, le))
past_end (x ∷ xs) (suc i) le = past_end xs i (omega (arith, le))

-- zeros behind a list are as nothing
zeros_read : (xs : List ℕ) (k i : ℕ) → get_or (xs ++ replicate k 0) i 0 ≡ get_or xs i 0
zeros_read xs k i = elim (cases_lt i (length xs)) [
  | inl lt ↦ get_or_append_left xs (replicate k 0) 0 i lt
  | inr le ↦
      get_or-append_right xs (replicate k 0) i 0 le
      ∙ elim (cases_lt (i - length xs) k) [
        | inl inside ↦ get_or-replicate k (i - length xs) 0 0 inside
        | inr past ↦ past_end (replicate k 0) (i - length xs) (omega (arith, length-replicate {A = ℕ} k 0, past))
      ]
      ∙ sym (past_end xs i le)
]

-- a piece of a filled list is that of the list, filled
pub piece_filled : (rows : List ℕ) (from count : ℕ) → length rows ≤ MAX_SIZE → from + count ≤ WORDS * WORD_COLUMNS
    → take count (drop from (filled rows)) ≡ take count (drop from rows) ++ replicate (count - length (take count (drop from rows))) 0
piece_filled rows from count le fits =
    let piece : List ℕ = take count (drop from rows) in
    let zeros : List ℕ = replicate (count - length piece) 0 in
    let whole : List ℕ = take count (drop from (filled rows)) in
    let long : length whole ≡ count =
    omega (arith, length-take count (drop from (filled rows)), length-drop from (filled rows), length-filled rows le, fits) in
    let short : length piece ≤ count = omega (arith, length-take count (drop from rows)) in
    let same : length (piece ++ zeros) ≡ count =
    omega (arith, length-append piece zeros, length-replicate {A = ℕ} (count - length piece) 0, short) in
    ext_get_or 0 whole (piece ++ zeros) (long ∙ sym same)
    (λ i inside.
    let lt : i < count = omega (arith, inside, long) in
    get_or-take count (drop from (filled rows)) i 0 lt
    ∙ get_or-drop from (filled rows) i 0
    ∙ zeros_read rows (WORDS * WORD_COLUMNS - length rows) (from + i)
    ∙ sym (zeros_read piece (count - length piece) i ∙ get_or-take count (drop from rows) i 0 lt ∙ get_or-drop from rows i 0))

-- at most as many as there are
pub take_at_most : (n m : ℕ) (xs : List ℕ) → m ≡ min (length xs) n → take m xs ≡ take n xs
take_at_most n m xs is = elim (cases_lt n (length xs)) [
  | inl lt ↦ ap (λ (z : ℕ). take z xs) (let e : m ≡ n = omega (arith, is, lt) in e)
  | inr le ↦ take_all m xs (omega (arith, is, le)) ∙ sym (take_all n xs le)
]

-- the number of a piece, filled by a shift
pub word_by_shift : (rows : List ℕ) (from : ℕ) (piece : List ℕ) (value : ℕ) → length rows ≤ MAX_SIZE → from + WORD_COLUMNS ≤ WORDS * WORD_COLUMNS → AreDigits piece
    → piece ≡ take WORD_COLUMNS (drop from rows) → value ≡ key_number piece
    → value * 2 ^ (DIGIT_BITS * (WORD_COLUMNS - length piece)) % 2 ^ 128 ≡ key_number (take WORD_COLUMNS (drop from (filled rows)))
word_by_shift rows from piece value le fits all is e =
    let short : length piece ≤ WORD_COLUMNS = omega (arith, ap length is, length-take WORD_COLUMNS (drop from rows)) in
    let rest : ℕ = WORD_COLUMNS - length piece in
    let list : take WORD_COLUMNS (drop from (filled rows)) ≡ piece ++ replicate rest 0 =
    piece_filled rows from WORD_COLUMNS le fits ∙ ap (λ zs. zs ++ replicate (WORD_COLUMNS - length zs) 0) (sym is) in
    let whole : value * 2 ^ (DIGIT_BITS * rest) ≡ key_number piece * BASE ^ rest = ap₂ (λ (z w : ℕ). z * w) e (sym (base_bits rest)) in
    let low : key_number piece * BASE ^ rest < 2 ^ 128 =
    below_all (key_number piece) (length piece) rest (number-below piece all) (omega (arith, short)) in
    ap (λ (z : ℕ). z % 2 ^ 128) whole ∙ mod-eq_of_lt low ∙ sym (ap key_number list ∙ number-filled piece rest)
  where
    below_all : (a n k : ℕ) → a < BASE ^ n → n + k ≡ WORD_COLUMNS → a * BASE ^ k < 2 ^ 128
    below_all a n k lt is =
        let here : a * BASE ^ k < BASE ^ n * BASE ^ k =
        omega (arith, mul-add-lt a (BASE ^ k) 0 (BASE ^ n) lt (omega (arith, base_bits k, pow_pos (DIGIT_BITS * k))), mul_comm (BASE ^ k) (BASE ^ n)) in
        let all : BASE ^ n * BASE ^ k ≡ BASE ^ WORD_COLUMNS = sym (pow-add BASE n k) ∙ ap (λ (z : ℕ). BASE ^ z) is in
        omega (arith, here, all)

-- a word behind the rows is 0
pub word_behind : (rows : List ℕ) (from : ℕ) → length rows ≤ from → from + WORD_COLUMNS ≤ WORDS * WORD_COLUMNS
    → key_number (take WORD_COLUMNS (drop from (filled rows))) ≡ 0
word_behind rows from past fits =
    let piece : List ℕ = take WORD_COLUMNS (drop from rows) in
    let none : length piece ≡ 0 = omega (arith, length-take WORD_COLUMNS (drop from rows), length-drop from rows, past) in
    ap key_number (piece_filled rows from WORD_COLUMNS (omega (arith, past, fits)) fits)
    ∙ number-filled piece (WORD_COLUMNS - length piece)
    ∙ ap (λ (z : ℕ). z * BASE ^ (WORD_COLUMNS - length piece)) (empty piece none)
    ∙ no_times (BASE ^ (WORD_COLUMNS - length piece))
  where
    no_times : (z : ℕ) → 0 * z ≡ 0
    no_times z = omega arith

    empty : (xs : List ℕ) → length xs ≡ 0 → key_number xs ≡ 0
    empty [] is = refl
    empty (x ∷ xs) is = absurd (omega (arith, is))

-- the digits of the word behind a number of words
next_word : (n : ℕ) (xs : List ℕ) → drop (WORD_COLUMNS * suc n) xs ≡ drop (WORD_COLUMNS * n) (drop WORD_COLUMNS xs)
next_word n xs =
    ap (λ (z : ℕ). drop z xs) (let e : WORD_COLUMNS * suc n ≡ WORD_COLUMNS + WORD_COLUMNS * n = omega arith in e)
    ∙ sym (drop-drop (WORD_COLUMNS * n) WORD_COLUMNS xs)

word_at : (n w : ℕ) (xs : List ℕ) (d : ℕ) → w < n → get_or (words n xs) w d ≡ key_number (take WORD_COLUMNS (drop (WORD_COLUMNS * w) xs))
word_at zero w xs d lt = absurd (omega (arith, lt))
word_at (suc n) zero xs d lt = refl
word_at (suc n) (suc w) xs d lt =
    word_at n w (drop WORD_COLUMNS xs) d (omega (arith, lt)) ∙ ap (λ zs. key_number (take WORD_COLUMNS zs)) (sym (next_word w xs))

-- one more word in front of zeros
one_more : (n k word : ℕ) (xs : List ℕ) → word ≡ key_number (take WORD_COLUMNS (drop (WORD_COLUMNS * n) xs))
    → slice_set (words n xs ++ replicate (suc k) 0) n word ≡ words (suc n) xs ++ replicate k 0
one_more zero k word xs is = ap (λ (z : ℕ). z ∷ replicate k 0) is
one_more (suc n) k word xs is =
    ap (λ zs. key_number (take WORD_COLUMNS xs) ∷ zs)
    (one_more n k word (drop WORD_COLUMNS xs) (is ∙ ap (λ zs. key_number (take WORD_COLUMNS zs)) (next_word n xs)))

pub word_more : (rows ws : List ℕ) (place word : ℕ) → place < WORDS → ws ≡ words place (filled rows) ++ replicate (WORDS - place) 0
    → word ≡ key_number (take WORD_COLUMNS (drop (place * WORD_COLUMNS) (filled rows)))
    → slice_set ws place word ≡ words (place + 1) (filled rows) ++ replicate (WORDS - (place + 1)) 0
word_more rows ws place word lt is same =
    ap (λ zs. slice_set zs place word) (is ∙ ap (λ (k : ℕ). words place (filled rows) ++ replicate k 0) left)
    ∙ one_more place (WORDS - (place + 1)) word (filled rows)
    (same ∙ ap (λ (k : ℕ). key_number (take WORD_COLUMNS (drop k (filled rows)))) (mul_comm place WORD_COLUMNS))
    ∙ ap (λ (n : ℕ). words n (filled rows) ++ replicate (WORDS - (place + 1)) 0) (sym (add-one place))
  where
    left : WORDS - place ≡ suc (WORDS - (place + 1))
    left = omega (arith, lt)

-- the words behind the rows are 0, so short rows have no word but the first
none_behind : (n from : ℕ) (rows : List ℕ) → length rows ≤ from → from + WORD_COLUMNS * n ≤ WORDS * WORD_COLUMNS
    → words n (drop from (filled rows)) ≡ replicate n 0
none_behind zero from rows past fits = refl
none_behind (suc n) from rows past fits =
    ap₂ (λ (z : ℕ) zs. z ∷ zs) (word_behind rows from past (omega (arith, fits)))
    (ap (λ zs. words n zs) (drop-drop WORD_COLUMNS from (filled rows))
    ∙ none_behind n (from + WORD_COLUMNS) rows (omega (arith, past)) (omega (arith, fits)))

pub short_words_of : (rows : List ℕ) → length rows ≤ WORD_COLUMNS → key_number (take WORD_COLUMNS (filled rows)) ∷ replicate (WORDS - 1) 0 ≡ words_of rows
short_words_of rows le = ap (λ zs. key_number (take WORD_COLUMNS (filled rows)) ∷ zs) (sym (none_behind (WORDS - 1) WORD_COLUMNS rows le (omega arith)))

pub first_word : (rows : List ℕ) (word : ℕ) → length rows ≤ WORD_COLUMNS → word ≡ key_number (take WORD_COLUMNS (filled rows))
    → slice_set (replicate WORDS 0) 0 word ≡ words_of rows
first_word rows word le is = ap (λ (z : ℕ). z ∷ replicate (WORDS - 1) 0) is ∙ short_words_of rows le

-- the digits of the words are the rows
pub digit_of_row : (rows : List ℕ) (c : ℕ) → length rows ≤ MAX_SIZE → AreDigits rows → c < length rows → digit_at (words_of rows) c ≡ get_or rows c 0
digit_of_row rows c le all inside =
    let w : ℕ = c / WORD_COLUMNS in
    let i : ℕ = c % WORD_COLUMNS in
    let back : WORD_COLUMNS * w + i ≡ c = omega arith in
    let lt : w < WORDS = omega (arith, inside, le) in
    let here : i < WORD_COLUMNS = omega arith in
    let behind : List ℕ = drop (WORD_COLUMNS * w) (filled rows) in
    let piece : List ℕ = take WORD_COLUMNS behind in
    let long : length piece ≡ WORD_COLUMNS =
    omega (arith, length-take WORD_COLUMNS behind, length-drop (WORD_COLUMNS * w) (filled rows), length-filled rows le, lt) in
    let digits : AreDigits piece =
    All-take (λ digit. digit < BASE) WORD_COLUMNS behind (All-drop (λ digit. digit < BASE) (WORD_COLUMNS * w) (filled rows) (filled-digits rows all)) in
    ap (λ (z : ℕ). z / BASE ^ (WORD_COLUMNS - 1 - i) % BASE) (word_at WORDS w (filled rows) 0 lt)
    ∙ number-digit piece i (WORD_COLUMNS - 1 - i) digits (omega (arith, here, long))
    ∙ get_or-take WORD_COLUMNS behind i 0 here
    ∙ get_or-drop (WORD_COLUMNS * w) (filled rows) i 0
    ∙ ap (λ (z : ℕ). get_or (filled rows) z 0) back
    ∙ get_or_append_left rows (replicate (WORDS * WORD_COLUMNS - length rows) 0) 0 c inside

pub digits_are_rows : (rows : List ℕ) → length rows ≤ MAX_SIZE → AreDigits rows → map (digit_at (words_of rows)) (range_with_len 0 (length rows)) ≡ rows
digits_are_rows rows le all =
    let f = digit_at (words_of rows) in
    let long = length-range_with_len 0 (length rows) in
    ext_get_or 0 (map f (range_with_len 0 (length rows))) rows (length-map (range_with_len 0 (length rows)) f ∙ long)
    (λ c inside.
    let low : c < length rows = omega (arith, inside, length-map (range_with_len 0 (length rows)) f, long) in
    get_or-map f (range_with_len 0 (length rows)) c 0 0 (omega (arith, low, long))
    ∙ ap f (get_or-range_with_len 0 (length rows) c 0 low ∙ zero-add c)
    ∙ digit_of_row rows c le all low)

-- the order of words is that of the rows
then_regrouped : (o p q : Ordering) → ordering_then (ordering_then o p) q ≡ ordering_then o (ordering_then p q)
then_regrouped Less p q = refl
then_regrouped Equal p q = refl
then_regrouped Greater p q = refl

order_in_pieces : (xs ys zs ws : List ℕ) → length xs ≡ length ys
    → slice_cmp nat_cmp (xs ++ zs) (ys ++ ws) ≡ ordering_then (slice_cmp nat_cmp xs ys) (slice_cmp nat_cmp zs ws)
order_in_pieces [] [] zs ws same = refl
order_in_pieces [] (y ∷ ys) zs ws same = absurd (omega (arith, same))
order_in_pieces (x ∷ xs) [] zs ws same = absurd (omega (arith, same))
order_in_pieces (x ∷ xs) (y ∷ ys) zs ws same =
    ap (λ o. ordering_then (nat_cmp x y) o) (order_in_pieces xs ys zs ws (omega (arith, same)))
    ∙ sym (then_regrouped (nat_cmp x y) (slice_cmp nat_cmp xs ys) (slice_cmp nat_cmp zs ws))

words_in_order : (n : ℕ) (xs ys : List ℕ) → length xs ≡ WORD_COLUMNS * n → length ys ≡ WORD_COLUMNS * n → AreDigits xs → AreDigits ys
    → slice_cmp nat_cmp (words n xs) (words n ys) ≡ slice_cmp nat_cmp xs ys
words_in_order zero xs ys lx ly ax ay = ap₂ (λ zs ws. slice_cmp nat_cmp zs ws) (none xs (omega (arith, lx))) (none ys (omega (arith, ly)))
  where
    none : (xs : List ℕ) → length xs ≡ 0 → [] ≡ xs
    none [] is = refl
    none (x ∷ xs) is = absurd (omega (arith, is))
words_in_order (suc n) xs ys lx ly ax ay =
    let fx : List ℕ = take WORD_COLUMNS xs in
    let fy : List ℕ = take WORD_COLUMNS ys in
    let bx : List ℕ = drop WORD_COLUMNS xs in
    let by : List ℕ = drop WORD_COLUMNS ys in
    let same : length fx ≡ length fy = omega (arith, length-take WORD_COLUMNS xs, length-take WORD_COLUMNS ys, lx, ly) in
    ap₂ ordering_then
    (number-order fx fy same (All-take (λ digit. digit < BASE) WORD_COLUMNS xs ax) (All-take (λ digit. digit < BASE) WORD_COLUMNS ys ay))
    (words_in_order n bx by (omega (arith, length-drop WORD_COLUMNS xs, lx)) (omega (arith, length-drop WORD_COLUMNS ys, ly))
    (All-drop (λ digit. digit < BASE) WORD_COLUMNS xs ax) (All-drop (λ digit. digit < BASE) WORD_COLUMNS ys ay))
    ∙ sym (order_in_pieces fx fy bx by same)
    ∙ ap₂ (λ zs ws. slice_cmp nat_cmp zs ws) (take-append-drop WORD_COLUMNS xs) (take-append-drop WORD_COLUMNS ys)

pub words_order : (xs ys : List ℕ) → length xs ≡ length ys → length xs ≤ MAX_SIZE → AreDigits xs → AreDigits ys
    → slice_cmp nat_cmp (words_of xs) (words_of ys) ≡ slice_cmp nat_cmp xs ys
words_order xs ys same le ax ay =
    words_in_order WORDS (filled xs) (filled ys) (length-filled xs le) (length-filled ys (omega (arith, same, le))) (filled-digits xs ax) (filled-digits ys ay)
    ∙ ap (λ (n : ℕ). slice_cmp nat_cmp (filled xs) (ys ++ replicate (WORDS * WORD_COLUMNS - n) 0)) (sym same)
    ∙ slice_cmp-append xs ys (replicate (WORDS * WORD_COLUMNS - length xs) 0) same

-- the rows of a translate are digits
pub translated_digits : (n a b : ℕ) (rows : List ℕ) → n ≤ MAX_SIZE → b < n → All (λ r. r < n) rows → AreDigits (translated_rows n a b rows)
translated_digits n a b rows le lt inside =
    lowered_rows n b (drop a rows ++ take a rows) le lt
    (All-append (λ r. r < n) (drop a rows) (take a rows) (All-drop (λ r. r < n) a rows inside) (All-take (λ r. r < n) a rows inside))

-- one more word of a sum
pub folded_more : (f : ℕ → ℕ → ℕ) (start : ℕ) (ws : List ℕ) (i : ℕ) → i < length ws
    → fold f start (take (i + 1) ws) ≡ f (fold f start (take i ws)) (get_or ws i 0)
folded_more f start ws i lt = ap (λ zs. fold f start zs) (take_more ws i 0 lt) ∙ fold-append f start (take i ws) (get_or ws i 0 ∷ [])
