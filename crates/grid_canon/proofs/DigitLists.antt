-- Numbers of 64 bits as lists of digits: with one digit more, cut at a place, and with one digit put in.
use Rattle.std.proofs.Common.{◌≡◌, ◌<◌, ◌≤◌, ◌+◌, ◌-◌, ◌*◌, ◌/◌, ◌%◌, ◌^◌, ◌++◌, ◌∷◌, ◌∙◌, ℕ, suc, List, length, get_or, take, drop, add-one, arith, sym, ap}
use Rattle.std.proofs.Common.{ap₂, subst}
use Rattle.std.specs.List.{insert, remove}
use Rattle.std.proofs.Math.Nat.{pow-succ', pow-le-pow_right}
use Rattle.std.proofs.lemmas.Nat.{pow-add, mul-add-lt, shl_whole, shr_high}
use Rattle.std.proofs.lemmas.List.{take-append-drop, length-take-le, length-drop, take_more, length-take}
use Rattle.std.proofs.lemmas.List.Elements.{All-take, All-drop}
use Rattle.grid_canon.specs.declared.digits.TheConstants.{SHORT_BASE, SHORT_BITS, MAX_SHORT_SIZE}
use Rattle.grid_canon.specs.Digits.{short_number, digits}
use Rattle.grid_canon.proofs.Guards.{FULL_BITS}
use Rattle.grid_canon.proofs.ShortNumbers.{AreShortDigits, short_number-append, short_number-below, short_number-push, short_bits}
use Rattle.grid_canon.proofs.NumbersOfDigits.{length-digits, digits-below, short_number-digits}

-- one more digit of a short list: the number, and that it fits
pub short_more : (rows : List ℕ) (i : ℕ) → AreShortDigits rows → length rows ≤ MAX_SHORT_SIZE → i < length rows
    → (short_number (take (i + 1) rows) ≡ short_number (take i rows) * SHORT_BASE + get_or rows i 0) × (short_number
    (take i rows) * SHORT_BASE + get_or rows i 0 < 2 ^ 64)
short_more rows i all le lt =
    let more : short_number (take (i + 1) rows) ≡ short_number (take i rows) * SHORT_BASE + get_or rows i 0 =
    ap short_number (take_more rows i 0 lt) ∙ short_number-push (take i rows) (get_or rows i 0) in
    let low = short_number-below (take (i + 1) rows) (All-take (λ digit. digit < SHORT_BASE) (i + 1) rows all) in
    let high =
    pow-le-pow_right {n = SHORT_BASE} (omega arith) {i = length (take (i + 1) rows)} {j = MAX_SHORT_SIZE} (omega (arith, length-take (i + 1) rows, le)) in
    (more, omega (arith, more, low, high))

-- the digits of a number before a place, and those from it on
abbrev front : ℕ → ℕ → ℕ → List ℕ
front n place value = take place (digits n value)

abbrev back : ℕ → ℕ → ℕ → List ℕ
back n place value = drop place (digits n value)

record Pieces (n place value : ℕ) : Type 0 where
  front_below : short_number (front n place value) < 2 ^ (SHORT_BITS * place)
  back_below : short_number (back n place value) < 2 ^ (SHORT_BITS * (n - place))
  whole : value ≡ short_number (front n place value) * 2 ^ (SHORT_BITS * (n - place)) + short_number (back n place value)
  front_power : SHORT_BASE ^ length (front n place value) ≡ 2 ^ (SHORT_BITS * place)
  back_power : SHORT_BASE ^ length (back n place value) ≡ 2 ^ (SHORT_BITS * (n - place))

pieces : (n place value : ℕ) → place ≤ n → value < SHORT_BASE ^ n → Pieces n place value
pieces n place value le lt =
    let all = digits-below n value lt in
    let long = length-digits n value in
    let front_power = ap (λ (z : ℕ). SHORT_BASE ^ z) (length-take-le place (digits n value) (omega (arith, le, long))) ∙ short_bits place in
    let back_power = ap (λ (z : ℕ). SHORT_BASE ^ z) (length-drop place (digits n value) ∙ ap (λ (z : ℕ). z - place) long) ∙ short_bits (n - place) in
    record {
      front_below =
          subst (λ (z : ℕ). short_number (front n place value) < z) front_power
          (short_number-below (front n place value) (All-take (λ digit. digit < SHORT_BASE) place (digits n value) all));
      back_below =
          subst (λ (z : ℕ). short_number (back n place value) < z) back_power
          (short_number-below (back n place value) (All-drop (λ digit. digit < SHORT_BASE) place (digits n value) all));
      whole =
          sym (short_number-digits n value lt)
          ∙ ap short_number (sym (take-append-drop place (digits n value)))
          ∙ short_number-append (front n place value) (back n place value)
          ∙ ap (λ (z : ℕ). short_number (front n place value) * z + short_number (back n place value)) back_power;
      front_power = front_power;
      back_power = back_power;
    }

-- what is left of a word of 64 bits without its bits from a place on
abbrev rest : ℕ → ℕ → ℕ
rest value q = value - value / 2 ^ q * 2 ^ q % 2 ^ 64

-- a word of two pieces: the higher, and the lower
high_of : (value q high low : ℕ) → low < 2 ^ q → value ≡ high * 2 ^ q + low → value / 2 ^ q ≡ high
high_of value q high low below is = ap (λ (z : ℕ). z / 2 ^ q) is ∙ shr_high high q low below

low_of : (value p q high low : ℕ) → high < 2 ^ p → low < 2 ^ q → p + q ≤ 64 → value ≡ high * 2 ^ q + low → rest value q ≡ low
low_of value p q high low above below fits is =
    ap₂ (λ (z w : ℕ). z - w) is (ap (λ (z : ℕ). z * 2 ^ q % 2 ^ 64) (high_of value q high low below is) ∙ shl_whole high p q 64 above fits)
    ∙ cancelled (high * 2 ^ q) low
  where
    cancelled : (a b : ℕ) → a + b - a ≡ b
    cancelled a b = omega arith

-- bounds of two pieces in one word
word-below : (p q high low : ℕ) → high < 2 ^ p → low < 2 ^ q → p + q ≤ FULL_BITS → high * 2 ^ q + low < 2 ^ 64
word-below p q high low above below fits =
    omega (
      arith,
      mul-add-lt high (2 ^ q) low (2 ^ p) above below,
      pow-add 2 q p,
      pow-le-pow_right {n = 2} (omega arith) {i = q + p} {j = FULL_BITS}
          (omega (arith, fits)),
    )

one_more-below : (p high digit : ℕ) → high < 2 ^ p → digit < SHORT_BASE → high * SHORT_BASE + digit < 2 ^ (p + SHORT_BITS)
one_more-below p high digit above inside = omega (arith, mul-add-lt high SHORT_BASE digit (2 ^ p) above inside, pow-add 2 p SHORT_BITS)

-- the pieces trade places
pieces_traded : (value p q high low : ℕ) → high < 2 ^ p → low < 2 ^ q → p + q ≤ FULL_BITS → value ≡ high * 2 ^ q + low
    → rest value q * 2 ^ p % 2 ^ 64 + value / 2 ^ q ≡ low * 2 ^ p + high
pieces_traded value p q high low above below fits is =
    ap₂ (λ (z w : ℕ). z * 2 ^ p % 2 ^ 64 + w) (low_of value p q high low above below (omega (arith, fits)) is) (high_of value q high low below is)
    ∙ ap (λ (z : ℕ). z + high) (shl_whole low q p 64 below (omega (arith, fits)))

pub cut_word : (value place n : ℕ) → place < n → n ≤ MAX_SHORT_SIZE → value < SHORT_BASE ^ n
    → (rest value (SHORT_BITS * (n - place)) * 2 ^ (SHORT_BITS * place) % 2 ^ 64 + value / 2 ^ (SHORT_BITS * (n - place)) ≡ short_number
    (back n place value ++ front n place value))
    × (short_number (back n place value ++ front n place value) < 2 ^ 64)
cut_word value place n lt le low =
    let p = SHORT_BITS * place in
    let q = SHORT_BITS * (n - place) in
    let both = pieces n place value (omega (arith, lt)) low in
    let head = short_number (front n place value) in
    let tail = short_number (back n place value) in
    let fits : p + q ≤ FULL_BITS = omega (arith, lt, le) in
    let list : short_number (back n place value ++ front n place value) ≡ tail * 2 ^ p + head =
    short_number-append (back n place value) (front n place value) ∙ ap (λ (z : ℕ). tail * z + head) both.front_power in (
      pieces_traded value p q head tail both.front_below both.back_below fits both.whole ∙ sym list,
      omega (arith, list, word-below q p tail head both.back_below both.front_below (omega (arith, fits))),
    )

-- a digit between the pieces
one_between : (value p q high low digit : ℕ) → high < 2 ^ p → low < 2 ^ q → digit < SHORT_BASE → p + q ≤ FULL_BITS - SHORT_BITS → value ≡ high * 2 ^ q + low
    → (value / 2 ^ q * SHORT_BASE % 2 ^ 64 + digit) * 2 ^ q % 2 ^ 64 + rest value q ≡ (high * SHORT_BASE + digit) * 2 ^ q + low
one_between value p q high low digit above below inside fits is =
    ap₂ (λ (z w : ℕ). (z * SHORT_BASE % 2 ^ 64 + digit) * 2 ^ q % 2 ^ 64 + w) (high_of value q high low below is)
    (low_of value p q high low above below (omega (arith, fits)) is)
    ∙ ap (λ (z : ℕ). (z + digit) * 2 ^ q % 2 ^ 64 + low) (shl_whole high p SHORT_BITS 64 above (omega (arith, fits)))
    ∙ ap (λ (z : ℕ). z + low) (shl_whole (high * SHORT_BASE + digit) (p + SHORT_BITS) q 64 (one_more-below p high digit above inside) (omega (arith, fits)))

short_number-insert : (xs : List ℕ) (place digit : ℕ)
    → short_number (insert xs place digit) ≡ (short_number (take place xs) * SHORT_BASE + digit) * SHORT_BASE ^ length (drop place xs) + short_number
    (drop place xs)
short_number-insert xs place digit =
    short_number-append (take place xs) (digit ∷ drop place xs)
    ∙ ap (λ (z : ℕ). short_number (take place xs) * z + short_number (digit ∷ drop place xs)) (pow-succ' SHORT_BASE (length (drop place xs)))
    ∙ regrouped (short_number (take place xs)) (SHORT_BASE ^ length (drop place xs)) digit (short_number (drop place xs))
  where
    regrouped : (a b c d : ℕ) → a * (SHORT_BASE * b) + (c * b + d) ≡ (a * SHORT_BASE + c) * b + d
    regrouped a b c d = omega arith

pub inserted_word : (value digit place n : ℕ) → place ≤ n → n < MAX_SHORT_SIZE → value < SHORT_BASE ^ n → digit < SHORT_BASE
    → ((value / 2 ^ (SHORT_BITS * (n - place)) * SHORT_BASE % 2 ^ 64 + digit) * 2 ^ (SHORT_BITS * (n - place)) % 2 ^ 64 + rest value
    (SHORT_BITS * (n - place)) ≡ short_number (insert (digits n value) place digit))
    × (short_number (insert (digits n value) place digit) < 2 ^ 64)
inserted_word value digit place n le lt low inside =
    let p = SHORT_BITS * place in
    let q = SHORT_BITS * (n - place) in
    let both = pieces n place value le low in
    let head = short_number (front n place value) in
    let tail = short_number (back n place value) in
    let fits : p + q ≤ FULL_BITS - SHORT_BITS = omega (arith, lt, le) in
    let list : short_number (insert (digits n value) place digit) ≡ (head * SHORT_BASE + digit) * 2 ^ q + tail =
    short_number-insert (digits n value) place digit ∙ ap (λ (z : ℕ). (head * SHORT_BASE + digit) * z + tail) both.back_power in (
      one_between value p q head tail digit both.front_below both.back_below inside fits both.whole ∙ sym list,
      omega (
        arith,
        list,
        word-below (p + SHORT_BITS) q (head * SHORT_BASE + digit) tail
            (one_more-below p head digit both.front_below inside) both.back_below (omega (arith, fits)),
      ),
    )

-- without the digit of a place
pub removed_word : (value place n : ℕ) → place < n → n ≤ MAX_SHORT_SIZE → value < SHORT_BASE ^ n
    → (value / 2 ^ (SHORT_BITS * (n - place - 1)) / 2 ^ SHORT_BITS * 2 ^ (SHORT_BITS * (n - place - 1)) % 2 ^ 64 + rest value (SHORT_BITS * (n - place - 1))
    ≡ short_number (remove (digits n value) place))
    × (short_number (remove (digits n value) place) < 2 ^ 64)
removed_word value place n lt le low =
    let p = SHORT_BITS * place in
    let q = SHORT_BITS * (n - place - 1) in
    let ds : List ℕ = digits n value in
    let both = pieces n (place + 1) value (omega (arith, lt)) low in
    let before = pieces n place value (omega (arith, lt)) low in
    let head = short_number (front n place value) in
    let digit = get_or ds place 0 in
    let tail = short_number (back n (place + 1) value) in
    let within : place < length ds = omega (arith, lt, length-digits n value) in
    let bits : SHORT_BITS * (n - (place + 1)) ≡ q = omega arith in
    let inside : digit < SHORT_BASE = digits-below n value low place 0 within in
    let front_is : short_number (front n (place + 1) value) ≡ head * SHORT_BASE + digit =
    ap short_number (take_more ds place 0 within) ∙ short_number-push (take place ds) digit in
    let below : tail < 2 ^ q = subst (λ (z : ℕ). tail < 2 ^ z) bits both.back_below in
    let whole : value ≡ (head * SHORT_BASE + digit) * 2 ^ q + tail =
    both.whole ∙ ap₂ (λ (z w : ℕ). z * 2 ^ w + tail) front_is bits in
    let fits : p + SHORT_BITS + q ≤ FULL_BITS = omega (arith, lt, le) in
    let above : head * SHORT_BASE + digit < 2 ^ (p + SHORT_BITS) = one_more-below p head digit before.front_below inside in
    let cut : value / 2 ^ q / 2 ^ SHORT_BITS ≡ head =
    ap (λ (z : ℕ). z / 2 ^ SHORT_BITS) (high_of value q (head * SHORT_BASE + digit) tail below whole) ∙ shr_high head SHORT_BITS digit inside in
    let list : short_number (remove ds place) ≡ head * 2 ^ q + tail =
    short_number-append (take place ds) (drop (suc place) ds)
    ∙ ap₂ (λ (z w : ℕ). head * z + w) (ap (λ (k : ℕ). SHORT_BASE ^ length (drop k ds)) (sym (add-one place)) ∙ both.back_power ∙ ap (λ (z : ℕ). 2 ^ z) bits)
    (ap (λ (k : ℕ). short_number (drop k ds)) (sym (add-one place))) in (
      ap₂ (λ (z w : ℕ). z * 2 ^ q % 2 ^ 64 + w) cut
          (low_of value (p + SHORT_BITS) q (head * SHORT_BASE + digit) tail above below (omega (arith, fits)) whole)
          ∙ ap (λ (z : ℕ). z + tail) (shl_whole head p q 64 before.front_below (omega (arith, fits)))
          ∙ sym list,
      omega (arith, list, word-below p q head tail before.front_below below (omega (arith, fits))),
    )

-- the digit at a place
last_digit : (high digit : ℕ) → digit < SHORT_BASE → (high * SHORT_BASE + digit) % SHORT_BASE ≡ digit
last_digit high digit inside = omega (arith, inside)

pub digit_word : (value place n : ℕ) → place < n → value < SHORT_BASE ^ n
    → value / 2 ^ (SHORT_BITS * (n - (place + 1))) % SHORT_BASE ≡ get_or (digits n value) place 0
digit_word value place n lt low =
    let both = pieces n (place + 1) value (omega (arith, lt)) low in
    let rows : List ℕ = digits n value in
    let inside : place < length rows = omega (arith, lt, length-digits n value) in
    ap (λ (z : ℕ). z % SHORT_BASE)
    (high_of value (SHORT_BITS * (n - (place + 1))) (short_number (front n (place + 1) value)) (short_number (back n (place + 1) value)) both.back_below both.whole
    ∙ ap short_number (take_more rows place 0 inside) ∙ short_number-push (take place rows) (get_or rows place 0))
    ∙ last_digit (short_number (take place rows)) (get_or rows place 0) (digits-below n value low place 0 inside)
