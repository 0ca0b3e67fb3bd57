-- All digits of a number changed at once, with the highest bit of each digit as its guard.
use Rattle.std.proofs.Common.{◌≡◌, ◌<◌, ◌≤◌, ◌+◌, ◌-◌, ◌*◌, ◌/◌, ◌^◌, ◌∷◌, [], ◌∙◌, ℕ, zero, suc, List, All, length, get_or, map, replicate, bit_and, nat_lt}
use Rattle.std.proofs.Common.{arith, refl, sym, ap, ap₂, subst, inl, inr, zero-add}
use Rattle.std.specs.Prelude.{if◌then◌else◌}
use Rattle.std.specs.List.{range_with_len}
use Rattle.std.proofs.Math.Nat.{pow-succ', pow-le-pow_right, mul-le-mul_right}
use Rattle.std.proofs.lemmas.Nat.{pow-add, div-mul-add, and_block}
use Rattle.std.proofs.lemmas.Nat.Bits.{and_pow}
use Rattle.std.proofs.lemmas.Bool.{cases_lt}
use Rattle.std.proofs.lemmas.Bool.Decides.{nat_tests}
use Rattle.std.proofs.lemmas.List.{ext_get_or, length-map, length-replicate, map-id}
use Rattle.std.proofs.lemmas.List.FromFn.{get_or-range_with_len, length-range_with_len, get_or-map-range_with_len, length-map-range_with_len}
use Rattle.std.proofs.lemmas.List.Elements.{All-tail, All-map}
use Rattle.grid_core.specs.Places.{lifted, lowered}
use Rattle.grid_moves.specs.Shift.{shifted}
use Rattle.grid_moves.specs.Exchange.{exchanged}
use Rattle.grid_moves.proofs.Shifted.{shifted_low, shifted_high, shifted_below}
use Rattle.grid_canon.specs.declared.digits.TheConstants.{SHORT_BASE, SHORT_BITS, MAX_SHORT_SIZE, GUARD}
use Rattle.grid_canon.specs.Digits.{short_number, digits, lowered_each, mark, AreLowDigits}
use Rattle.grid_canon.proofs.ShortNumbers.{AreShortDigits, short_number-below, short_bits}
use Rattle.grid_canon.proofs.NumbersOfDigits.{length-digits, short_number-digits}

-- the bits of all digits of the longest short number
abbrev pub FULL_BITS : ℕ
FULL_BITS = SHORT_BITS * MAX_SHORT_SIZE

-- the number with as many digits 1
abbrev pub ones_of : ℕ → ℕ
ones_of n = short_number (replicate n 1)

pub ones_exact : (n : ℕ) → (SHORT_BASE - 1) * ones_of n + 1 ≡ SHORT_BASE ^ n
ones_exact zero = refl
ones_exact (suc n) =
    let power : SHORT_BASE ^ length (replicate {A = ℕ} n 1) ≡ SHORT_BASE ^ n = ap (λ (z : ℕ). SHORT_BASE ^ z) (length-replicate {A = ℕ} n 1) in
    omega (arith, ones_exact n, power, pow-succ' SHORT_BASE n)

-- the first n digits of n + m digits 1
ones_split : (n m : ℕ) → ones_of (n + m) ≡ ones_of n * SHORT_BASE ^ m + ones_of m
ones_split n m =
    counted (SHORT_BASE ^ n) (SHORT_BASE ^ m) (ones_of n) (ones_of m) (ones_of (n + m)) (ones_exact n) (ones_exact m)
    (ones_exact (n + m) ∙ pow-add SHORT_BASE n m)
  where
    counted : (p q a b s : ℕ) → (SHORT_BASE - 1) * a + 1 ≡ p → (SHORT_BASE - 1) * b + 1 ≡ q → (SHORT_BASE - 1) * s + 1 ≡ p * q → s ≡ a * q + b
    counted p q a b s ea eb es = let e : ((SHORT_BASE - 1) * a + 1) * q ≡ p * q = ap (λ (z : ℕ). z * q) ea in omega arith

pub ones_shifted : (n m : ℕ) → ones_of (n + m) / SHORT_BASE ^ m ≡ ones_of n
ones_shifted n m =
    ap (λ (z : ℕ). z / SHORT_BASE ^ m) (ones_split n m) ∙ div-mul-add (ones_of n) (SHORT_BASE ^ m) (ones_of m) (omega (arith, ones_exact m))

-- the number with the images of some rows as its digits
abbrev number_by : (ℕ → ℕ) → List ℕ → ℕ
number_by f rows = short_number (map f rows)

number_by-cons : (f : ℕ → ℕ) (x : ℕ) (xs : List ℕ) → number_by f (x ∷ xs) ≡ f x * SHORT_BASE ^ length xs + number_by f xs
number_by-cons f x xs = ap (λ (z : ℕ). f x * SHORT_BASE ^ z + number_by f xs) (length-map xs f)

number_by-below : (f : ℕ → ℕ) (xs : List ℕ) → All (λ r. f r < SHORT_BASE) xs → number_by f xs < SHORT_BASE ^ length xs
number_by-below f xs each =
    subst (λ (z : ℕ). number_by f xs < SHORT_BASE ^ z) (length-map xs f) (short_number-below (map f xs) (All-map (λ digit. digit < SHORT_BASE) f xs each))

abbrev one : ℕ → ℕ
one r = 1

number_by-one : (xs : List ℕ) → number_by one xs ≡ ones_of (length xs)
number_by-one xs = ap short_number (constant xs)
  where
    constant : (xs : List ℕ) → map one xs ≡ replicate (length xs) 1
    constant [] = refl
    constant (x ∷ xs) = ap (λ zs. 1 ∷ zs) (constant xs)

-- an equation of digits is one of numbers
number_by-sums : (a b : ℕ) (f g h k : ℕ → ℕ) (xs : List ℕ) → All (λ r. f r + a * g r ≡ h r + b * k r) xs
    → number_by f xs + a * number_by g xs ≡ number_by h xs + b * number_by k xs
number_by-sums a b f g h k [] each = omega arith
number_by-sums a b f g h k (x ∷ xs) each =
    ap₂ (λ (z w : ℕ). z + a * w) (number_by-cons f x xs) (number_by-cons g x xs)
    ∙ joined (SHORT_BASE ^ length xs) (f x) (g x) (h x) (k x) (number_by f xs) (number_by g xs) (number_by h xs) (number_by k xs)
    (each 0 0 (omega arith))
    (number_by-sums a b f g h k xs (All-tail (λ r. f r + a * g r ≡ h r + b * k r) x xs each))
    ∙ sym (ap₂ (λ (z w : ℕ). z + b * w) (number_by-cons h x xs) (number_by-cons k x xs))
  where
    joined : (p u v s t u' v' s' t' : ℕ) → u + a * v ≡ s + b * t → u' + a * v' ≡ s' + b * t' → (u * p + u') + a * (v * p + v') ≡ (s * p + s') + b * (t * p + t')
    joined p u v s t u' v' s' t' head rest = let e : (u + a * v) * p ≡ (s + b * t) * p = ap (λ (z : ℕ). z * p) head in omega arith

-- a row with the guard, lower by as many; whether a row is below a bound, and whether it is not
abbrev raised : ℕ → ℕ → ℕ
raised by r = r + (GUARD - by)

abbrev under : ℕ → ℕ → ℕ
under by r = if nat_lt r by then 1 else 0

abbrev over : ℕ → ℕ → ℕ
over by r = if nat_lt r by then 0 else 1

guard_of : (by r : ℕ) → by ≤ GUARD → r < GUARD → bit_and (raised by r) GUARD ≡ GUARD * over by r
guard_of by r le lt = and_pow (raised by r) (SHORT_BITS - 1) ∙ grind (arith, nat_tests)

-- the guards that are left
guards_by : (f g : ℕ → ℕ) (xs : List ℕ) → All (λ r. (f r < SHORT_BASE) × (bit_and (f r) GUARD ≡ GUARD * g r)) xs
    → bit_and (number_by f xs) (GUARD * ones_of (length xs)) ≡ GUARD * number_by g xs
guards_by f g [] each = refl
guards_by f g (x ∷ xs) each =
    let rest = All-tail (λ r. (f r < SHORT_BASE) × (bit_and (f r) GUARD ≡ GUARD * g r)) x xs each in
    let n : ℕ = length xs in
    let power : SHORT_BASE ^ n ≡ 2 ^ (SHORT_BITS * n) = short_bits n in
    let long : SHORT_BASE ^ length (replicate {A = ℕ} n 1) ≡ SHORT_BASE ^ n = ap (λ (z : ℕ). SHORT_BASE ^ z) (length-replicate {A = ℕ} n 1) in
    ap₂ bit_and
    (number_by-cons f x xs ∙ ap (λ (z : ℕ). f x * z + number_by f xs) power)
    (let e : GUARD * ones_of (suc n) ≡ GUARD * 2 ^ (SHORT_BITS * n) + GUARD * ones_of n = omega (arith, power, long) in e)
    ∙ and_block (SHORT_BITS * n) (f x) GUARD (number_by f xs) (GUARD * ones_of n)
    (omega (arith, power, number_by-below f xs (λ k d inside. (rest k d inside).0)))
    (omega (arith, power, ones_exact n))
    ∙ ap₂ (λ (z w : ℕ). z * 2 ^ (SHORT_BITS * n) + w) (each 0 0 (omega arith)).1 (guards_by f g xs rest)
    ∙ ap (λ (z : ℕ). GUARD * g x * z + GUARD * number_by g xs) (sym power)
    ∙ regrouped (g x) (SHORT_BASE ^ n) (number_by g xs)
    ∙ ap (λ (z : ℕ). GUARD * z) (sym (number_by-cons g x xs))
  where
    regrouped : (a p b : ℕ) → GUARD * a * p + GUARD * b ≡ GUARD * (a * p + b)
    regrouped a p b = omega arith

guards_left : (by : ℕ) (xs : List ℕ) → by ≤ GUARD → All (λ r. r < GUARD) xs
    → bit_and (number_by (raised by) xs) (GUARD * ones_of (length xs)) ≡ GUARD * number_by (over by) xs
guards_left by xs le low =
    guards_by (raised by) (over by) xs
    (λ k d inside. (omega (arith, low k d inside), guard_of by (get_or xs k d) le (low k d inside)))

-- the sums of the digits
abbrev same : ℕ → ℕ
same r = r

number_by-same : (xs : List ℕ) → number_by same xs ≡ short_number xs
number_by-same xs = ap short_number (map-id xs)

raised_sum : (by : ℕ) (xs : List ℕ) → by ≤ GUARD → number_by (raised by) xs + by * ones_of (length xs) ≡ short_number xs + GUARD * ones_of (length xs)
raised_sum by xs le =
    ap (λ (z : ℕ). number_by (raised by) xs + by * z) (sym (number_by-one xs))
    ∙ number_by-sums by GUARD (raised by) one same one xs (λ k d inside. omega (arith, le))
    ∙ ap₂ (λ (z w : ℕ). z + GUARD * w) (number_by-same xs) (number_by-one xs)

sides : (by r : ℕ) → under by r + 1 * over by r ≡ 1 + 0 * 1
sides by r = grind (arith, nat_tests)

sides_sum : (by : ℕ) (xs : List ℕ) → number_by (under by) xs + number_by (over by) xs ≡ ones_of (length xs)
sides_sum by xs =
    let sums = number_by-sums 1 0 (under by) (over by) one one xs (λ k d inside. sides by (get_or xs k d)) in
    omega (arith, sums, number_by-one xs)

lowered_digit : (size by r : ℕ) → size ≤ GUARD → by < size → r < size → raised by r + size * under by r ≡ shifted size by r + GUARD * 1
lowered_digit size by r le lt small = elim (cases_lt r by) [
  | inl low ↦
      ap (λ (z : ℕ). raised by r + size * z) (let e : under by r ≡ 1 = grind (arith, nat_tests) in e)
      ∙ omega (arith, shifted_low size by r low lt)
  | inr high ↦
      ap (λ (z : ℕ). raised by r + size * z) (let e : under by r ≡ 0 = grind (arith, nat_tests) in e)
      ∙ omega (arith, shifted_high size by r high small)
]

lowered_sum : (size by : ℕ) (xs : List ℕ) → size ≤ GUARD → by < size → All (λ r. r < size) xs
    → number_by (raised by) xs + size * number_by (under by) xs ≡ number_by (shifted size by) xs + GUARD * ones_of (length xs)
lowered_sum size by xs le lt inside =
    number_by-sums size GUARD (raised by) (under by) (shifted size by) one xs (λ k d within. lowered_digit size by (get_or xs k d) le lt (inside k d within))
    ∙ ap (λ (z : ℕ). number_by (shifted size by) xs + GUARD * z) (number_by-one xs)

lifted_sum : (row : ℕ) (xs : List ℕ) → short_number xs + number_by (over row) xs ≡ number_by (lifted row) xs
lifted_sum row xs =
    let sums = number_by-sums 1 0 same (over row) (lifted row) one xs (λ k d inside. digit (get_or xs k d)) in
    omega (arith, sums, number_by-same xs)
  where
    digit : (r : ℕ) → r + 1 * over row r ≡ lifted row r + 0 * 1
    digit r = grind (arith, nat_tests)

dropped_sum : (row : ℕ) (xs : List ℕ) → number_by (lowered row) xs + number_by (over (row + 1)) xs ≡ short_number xs
dropped_sum row xs =
    let sums = number_by-sums 1 0 (lowered row) (over (row + 1)) same one xs (λ k d inside. digit (get_or xs k d)) in
    omega (arith, sums, number_by-same xs)
  where
    digit : (r : ℕ) → lowered row r + 1 * over (row + 1) r ≡ r + 0 * 1
    digit r = grind (arith, nat_tests)

-- the digits with their guards, lowered, and the guards that are left, as the code computes them
abbrev pub guarded : ℕ → ℕ → ℕ → ℕ
guarded value by units = value + GUARD * units - by * units

abbrev pub kept : ℕ → ℕ → ℕ → ℕ
kept value by units = bit_and (guarded value by units) (GUARD * units)

-- what there is room for
pub record Room (value by units : ℕ) : Type 0 where
  pub digits : value < 2 ^ FULL_BITS
  pub guards : GUARD * units < 2 ^ FULL_BITS
  pub taken : by * units ≤ GUARD * units

room : (value by units : ℕ) (xs : List ℕ) → length xs ≤ MAX_SHORT_SIZE → by ≤ GUARD → All (λ r. r < GUARD) xs → value ≡ short_number xs
    → units ≡ ones_of (length xs) → Room value by units
room value by units xs long le low is count =
    let most : SHORT_BASE ^ length xs ≤ 2 ^ FULL_BITS = pow-le-pow_right {n = SHORT_BASE} (omega arith) {i = length xs} {j = MAX_SHORT_SIZE} long in
    let small : AreShortDigits xs = λ k d inside. omega (arith, low k d inside) in
    record {
      digits = omega (arith, short_number-below xs small);
      guards = omega (arith, ones_exact (length xs));
      taken = mul-le-mul_right units le;
    }

guarded_is : (value by units : ℕ) (xs : List ℕ) → by ≤ GUARD → value ≡ short_number xs → units ≡ ones_of (length xs)
    → guarded value by units ≡ number_by (raised by) xs
guarded_is value by units xs le is count =
    let sum = raised_sum by xs le in
    let taken : by * units ≡ by * ones_of (length xs) = ap (λ (z : ℕ). by * z) count in
    omega arith

kept_is : (value by units : ℕ) (xs : List ℕ) → by ≤ GUARD → All (λ r. r < GUARD) xs → value ≡ short_number xs → units ≡ ones_of (length xs)
    → kept value by units ≡ GUARD * number_by (over by) xs
kept_is value by units xs le low is count =
    ap₂ (λ (z w : ℕ). bit_and z (GUARD * w)) (guarded_is value by units xs le is count) count ∙ guards_left by xs le low

-- the rows lowered round the circle
pub record Lowers (size value by units times : ℕ) : Type 0 where
  pub room : Room value by units
  pub whole : guarded value by units + times * ((GUARD * units - kept value by units) / GUARD) ≡ short_number
      (map (shifted size by) (digits size value)) + GUARD * units
  pub below : short_number (map (shifted size by) (digits size value)) < 2 ^ FULL_BITS

pub lowered_digits : (size value by units times : ℕ) → size ≤ MAX_SHORT_SIZE
    → value < SHORT_BASE ^ size → by < size → All (λ r. r < size) (digits size value) → units ≡ ones_of size → times ≡ size → Lowers size value by units times
lowered_digits size value by units times most lt small inside count turns =
    let xs : List ℕ = digits size value in
    let long : length xs ≡ size = length-digits size value in
    let is : value ≡ short_number xs = sym (short_number-digits size value lt) in
    let ones : units ≡ ones_of (length xs) = count ∙ ap ones_of (sym long) in
    let le : by ≤ GUARD = omega arith in
    let low : All (λ r. r < GUARD) xs = λ k d within. omega (arith, inside k d within) in
    let left : (GUARD * units - kept value by units) / GUARD ≡ number_by (under by) xs =
    omega (arith, kept_is value by units xs le low is ones, sides_sum by xs, ones) in
    record {
      room = room value by units xs (omega arith) le low is ones;
      whole =
          ap₂ (λ (z w : ℕ). guarded value by units + z * w) turns left
          ∙ ap (λ (z : ℕ). z + size * number_by (under by) xs) (guarded_is value by units xs le is ones)
          ∙ lowered_sum size by xs (omega arith) small inside
          ∙ ap (λ (z : ℕ). number_by (shifted size by) xs + GUARD * z) (sym ones);
      below =
          omega (
            arith,
            number_by-below (shifted size by) xs
                (λ k d within. omega (arith, shifted_below size by (get_or xs k d) small (inside k d within))),
            pow-le-pow_right {n = SHORT_BASE}
                (omega arith) {i = length xs} {j = MAX_SHORT_SIZE} (omega arith),
          );
    }

-- the rows lifted from a row on
pub record Lifts (size value row units : ℕ) : Type 0 where
  pub room : Room value row units
  pub whole : value + kept value row units / GUARD ≡ short_number (map (lifted row) (digits size value))
  pub left : kept value row units / GUARD ≤ units

pub lifted_digits : (size value row units : ℕ) → size < MAX_SHORT_SIZE → value < SHORT_BASE ^ size → row ≤ size → All (λ r. r < size) (digits size value)
    → units ≡ ones_of size → Lifts size value row units
lifted_digits size value row units most lt small inside count =
    let xs : List ℕ = digits size value in
    let long : length xs ≡ size = length-digits size value in
    let is : value ≡ short_number xs = sym (short_number-digits size value lt) in
    let ones : units ≡ ones_of (length xs) = count ∙ ap ones_of (sym long) in
    let le : row ≤ GUARD = omega arith in
    let low : All (λ r. r < GUARD) xs = λ k d within. omega (arith, inside k d within) in
    let left : kept value row units / GUARD ≡ number_by (over row) xs = omega (arith, kept_is value row units xs le low is ones) in
    record {
      room = room value row units xs (omega arith) le low is ones;
      whole = ap₂ (λ (z w : ℕ). z + w) is left ∙ lifted_sum row xs;
      left = omega (arith, left, sides_sum row xs, ones);
    }

-- the rows above a row, one lower
pub record Drops (size value row units : ℕ) : Type 0 where
  pub room : Room value (row + 1) units
  pub whole : value - kept value (row + 1) units / GUARD ≡ short_number (map (lowered row) (digits size value))
  pub left : kept value (row + 1) units / GUARD ≤ value

pub dropped_digits : (size value row units : ℕ) → size ≤ MAX_SHORT_SIZE → value < SHORT_BASE ^ size → row < GUARD → All (λ r. r < GUARD) (digits size value)
    → units ≡ ones_of size → Drops size value row units
dropped_digits size value row units most lt small low count =
    let xs : List ℕ = digits size value in
    let long : length xs ≡ size = length-digits size value in
    let is : value ≡ short_number xs = sym (short_number-digits size value lt) in
    let ones : units ≡ ones_of (length xs) = count ∙ ap ones_of (sym long) in
    let le : row + 1 ≤ GUARD = omega (arith, small) in
    let left : kept value (row + 1) units / GUARD ≡ number_by (over (row + 1)) xs = omega (arith, kept_is value (row + 1) units xs le low is ones) in
    record {
      room = room value (row + 1) units xs (omega arith) le low is ones;
      whole = omega (arith, left, dropped_sum row xs, is);
      left = omega (arith, left, dropped_sum row xs, is);
    }

-- the rows of n columns as a list
listed : (rows : List ℕ) (n : ℕ) → length rows ≡ n → map (λ c. get_or rows c 0) (range_with_len 0 n) ≡ rows
listed rows n long =
    let count = length-map-range_with_len (λ c. get_or rows c 0) 0 n in
    ext_get_or 0 (map (λ c. get_or rows c 0) (range_with_len 0 n)) rows (count ∙ sym long)
    (λ i lt. get_or-map-range_with_len (λ c. get_or rows c 0) 0 n i i 0 (omega (arith, lt, count)) (zero-add i))

-- the digit of a column
abbrev pub digit_of : ℕ → ℕ → ℕ → ℕ
digit_of n value c = get_or (digits n value) c 0

number_of_digits : (n value : ℕ) → value < SHORT_BASE ^ n → number_by (digit_of n value) (range_with_len 0 n) ≡ value
number_of_digits n value lt = ap short_number (listed (digits n value) n (length-digits n value)) ∙ short_number-digits n value lt

-- the digits of two numbers column by column, one lowered by the other with its guards
abbrev raises : ℕ → ℕ → ℕ → ℕ → ℕ
raises n value by c = raised (digit_of n by c) (digit_of n value c)

abbrev unders : ℕ → ℕ → ℕ → ℕ → ℕ
unders n value by c = under (digit_of n by c) (digit_of n value c)

abbrev overs : ℕ → ℕ → ℕ → ℕ → ℕ
overs n value by c = over (digit_of n by c) (digit_of n value c)

record Compared (n value by units : ℕ) : Type 0 where
  whole : value + GUARD * units ≡ number_by (raises n value by) (range_with_len 0 n) + by
  kept : bit_and (value + GUARD * units - by) (GUARD * units) ≡ GUARD * number_by (overs n value by) (range_with_len 0 n)
  sides : number_by (unders n value by) (range_with_len 0 n) + number_by (overs n value by) (range_with_len 0 n) ≡ units

compared : (n value by units : ℕ) → value < SHORT_BASE ^ n → by < SHORT_BASE ^ n → ((c : ℕ) → c < n → digit_of n value c < GUARD)
    → ((c : ℕ) → c < n → digit_of n by c < GUARD) → units ≡ ones_of n → Compared n value by units
compared n value by units lt by_lt small by_small count =
    let xs : List ℕ = range_with_len 0 n in
    let v : ℕ → ℕ = digit_of n value in
    let b : ℕ → ℕ = digit_of n by in
    let long : length xs ≡ n = length-range_with_len 0 n in
    let column : (k d : ℕ) → k < length xs → get_or xs k d < n =
    λ k d within. omega (arith, within, long, get_or-range_with_len 0 n k d (omega (arith, within, long))) in
    let ones : ones_of (length xs) ≡ units = ap ones_of long ∙ sym count in
    let raise_sum =
    number_by-sums 1 GUARD (raises n value by) b v one xs
    (λ k d within. raised_digit (b (get_or xs k d)) (v (get_or xs k d)) (omega (arith, by_small (get_or xs k d) (column k d within)))) in
    let side_sum = number_by-sums 1 0 (unders n value by) (overs n value by) one one xs (λ k d within. sides (b (get_or xs k d)) (v (get_or xs k d))) in
    let one_sum = number_by-one xs in
    let guarded_sum : value + GUARD * units - by ≡ number_by (raises n value by) xs =
    omega (arith, raise_sum, number_of_digits n value lt, number_of_digits n by by_lt, one_sum, ones) in
    record {
      whole = omega (arith, raise_sum, number_of_digits n value lt, number_of_digits n by by_lt, one_sum, ones);
      kept = ap₂ (λ (z w : ℕ). bit_and z (GUARD * w)) guarded_sum (sym ones)
          ∙ guards_by (raises n value by) (overs n value by) xs
          (λ k d within. (
            omega (arith, small (get_or xs k d) (column k d within)),
            guard_of (b (get_or xs k d)) (v (get_or xs k d)) (omega (arith, by_small (get_or xs k d) (column k d within)))
                (small (get_or xs k d) (column k d within)),
          ));
      sides = omega (arith, side_sum, one_sum, ones);
    }
  where
    raised_digit : (by r : ℕ) → by ≤ GUARD → raised by r + 1 * by ≡ r + GUARD * 1
    raised_digit by r le = omega arith

-- each row lowered by that of another number in its column
pub record LowersEach (size value by units times : ℕ) : Type 0 where
  pub digits_room : value < 2 ^ FULL_BITS
  pub guards : GUARD * units < 2 ^ FULL_BITS
  pub taken : by ≤ value + GUARD * units
  pub left : bit_and (value + GUARD * units - by) (GUARD * units) ≤ GUARD * units
  pub whole : value + times * ((GUARD * units - bit_and (value + GUARD * units - by) (GUARD * units)) / GUARD) ≡ short_number
      (lowered_each size (digits size value) (digits size by)) + by
  pub below : short_number (lowered_each size (digits size value) (digits size by)) + by < 2 ^ FULL_BITS + 2 ^ FULL_BITS

pub lowered_each_digits : (size value by units times : ℕ) → size ≤ MAX_SHORT_SIZE → value < SHORT_BASE ^ size → by < SHORT_BASE ^ size
    → All (λ r. r < size) (digits size value) → All (λ r. r < size) (digits size by) → units ≡ ones_of size → times ≡ size
    → LowersEach size value by units times
lowered_each_digits size value by units times most lt by_lt inside by_inside count turns =
    let xs : List ℕ = range_with_len 0 size in
    let v : ℕ → ℕ = digit_of size value in
    let b : ℕ → ℕ = digit_of size by in
    let long : length xs ≡ size = length-range_with_len 0 size in
    let small : (c : ℕ) → c < size → v c < size = λ c within. inside c 0 (omega (arith, within, length-digits size value)) in
    let by_small : (c : ℕ) → c < size → b c < size = λ c within. by_inside c 0 (omega (arith, within, length-digits size by)) in
    let column : (k d : ℕ) → k < length xs → get_or xs k d < size =
    λ k d within. omega (arith, within, long, get_or-range_with_len 0 size k d (omega (arith, within, long))) in
    let ones : ones_of (length xs) ≡ units = ap ones_of long ∙ sym count in
    let known =
    compared size value by units lt by_lt (λ c within. omega (arith, small c within, most)) (λ c within. omega (arith, by_small c within, most)) count in
    let lowers : ℕ → ℕ = λ c. shifted size (b c) (v c) in
    let lower_sum =
    number_by-sums size GUARD (raises size value by) (unders size value by) lowers one xs
    (λ k d within. lowered_digit size (b (get_or xs k d)) (v (get_or xs k d)) (omega (arith, most)) (by_small (get_or xs k d) (column k d within))
    (small (get_or xs k d) (column k d within))) in
    let one_sum = number_by-one xs in
    let under_sum : (GUARD * units - bit_and (value + GUARD * units - by) (GUARD * units)) / GUARD ≡ number_by (unders size value by) xs =
    omega (arith, known.kept, known.sides) in
    let power : SHORT_BASE ^ size ≤ 2 ^ FULL_BITS = pow-le-pow_right {n = SHORT_BASE} (omega arith) {i = size} {j = MAX_SHORT_SIZE} most in
    let lowers_below : number_by lowers xs < SHORT_BASE ^ length xs =
    number_by-below lowers xs
    (λ k d within. omega (
      arith,
      shifted_below size (b (get_or xs k d)) (v (get_or xs k d)) (by_small (get_or xs k d) (column k d within))
          (small (get_or xs k d) (column k d within)),
      most,
    )) in
    record {
      digits_room = omega (arith, lt, power);
      guards = omega (arith, ones_exact size, count, power);
      taken = omega (arith, known.whole);
      left = omega (arith, known.kept, known.sides);
      whole =
          ap₂ (λ (z w : ℕ). value + z * w) turns under_sum
          ∙ omega (arith, lower_sum, known.whole, one_sum, ones);
      below = omega (arith, lowers_below, ap (λ (z : ℕ). SHORT_BASE ^ z) long, power, by_lt);
    }

-- each digit marked that is below that of another number
pub record MarksBelow (n value by units : ℕ) : Type 0 where
  pub digits_room : value < 2 ^ FULL_BITS
  pub guards : GUARD * units < 2 ^ FULL_BITS
  pub taken : by ≤ value + GUARD * units
  pub left : bit_and (value + GUARD * units - by) (GUARD * units) ≤ GUARD * units
  pub marked : GUARD * units - bit_and (value + GUARD * units - by) (GUARD * units) ≡ short_number
      (map (λ c. mark (digit_of n by c) (digit_of n value c)) (range_with_len 0 n))

pub marks_below_of : (n value by units : ℕ) → n ≤ MAX_SHORT_SIZE → value < SHORT_BASE ^ n → by < SHORT_BASE ^ n
    → All (λ r. r < GUARD) (digits n value) → All (λ r. r < GUARD) (digits n by) → units ≡ ones_of n → MarksBelow n value by units
marks_below_of n value by units most lt by_lt inside by_inside count =
    let xs : List ℕ = range_with_len 0 n in
    let known =
    compared n value by units lt by_lt (λ c within. inside c 0 (omega (arith, within, length-digits n value)))
    (λ c within. by_inside c 0 (omega (arith, within, length-digits n by))) count in
    let mark_sum =
    number_by-sums 1 GUARD (λ c. mark (digit_of n by c) (digit_of n value c)) one one (unders n value by) xs
    (λ k d within. marked_digit (digit_of n by (get_or xs k d)) (digit_of n value (get_or xs k d))) in
    let power : SHORT_BASE ^ n ≤ 2 ^ FULL_BITS = pow-le-pow_right {n = SHORT_BASE} (omega arith) {i = n} {j = MAX_SHORT_SIZE} most in
    record {
      digits_room = omega (arith, lt, power);
      guards = omega (arith, ones_exact n, count, power);
      taken = omega (arith, known.whole);
      left = omega (arith, known.kept, known.sides);
      marked = omega (arith, known.kept, known.sides, mark_sum);
    }
  where
    marked_digit : (bound r : ℕ) → mark bound r + 1 * 1 ≡ 1 + GUARD * under bound r
    marked_digit bound r = grind (arith, nat_tests)

-- all digits one
pub repeated_sum : (n units digit : ℕ) → units ≡ ones_of n → digit * units ≡ short_number (map (λ c. digit) (range_with_len 0 n))
repeated_sum n units digit count =
    let xs : List ℕ = range_with_len 0 n in
    let sum = number_by-sums 1 digit (λ c. digit) one one one xs (λ k d within. omega arith) in
    let units_are : units ≡ number_by one xs = omega (arith, number_by-one xs, ap ones_of (length-range_with_len 0 n), count) in
    let product : digit * units ≡ digit * number_by one xs = ap (λ (z : ℕ). digit * z) units_are in
    omega (arith, sum, product)

-- the digits below a bound, marked
marks_sum : (bound : ℕ) (xs : List ℕ) → number_by (mark bound) xs ≡ GUARD * number_by (under bound) xs
marks_sum bound [] = refl
marks_sum bound (x ∷ xs) =
    number_by-cons (mark bound) x xs
    ∙ ap₂ (λ (z w : ℕ). z * SHORT_BASE ^ length xs + w) (digit x) (marks_sum bound xs)
    ∙ regrouped (under bound x) (SHORT_BASE ^ length xs) (number_by (under bound) xs)
    ∙ ap (λ (z : ℕ). GUARD * z) (sym (number_by-cons (under bound) x xs))
  where
    digit : (r : ℕ) → mark bound r ≡ GUARD * under bound r
    digit r = grind (arith, nat_tests)

    regrouped : (a p b : ℕ) → GUARD * a * p + GUARD * b ≡ GUARD * (a * p + b)
    regrouped a p b = omega arith

pub record Marks (size value bound units : ℕ) : Type 0 where
  pub room : Room value bound units
  pub left : kept value bound units ≤ GUARD * units
  pub marked : GUARD * units - kept value bound units ≡ short_number (map (mark bound) (digits size value))

pub marks_of : (size value bound units : ℕ) → size ≤ MAX_SHORT_SIZE → value < SHORT_BASE ^ size → bound ≤ size → All (λ r. r < size) (digits size value)
    → units ≡ ones_of size → Marks size value bound units
marks_of size value bound units most lt small inside count =
    let xs : List ℕ = digits size value in
    let long : length xs ≡ size = length-digits size value in
    let is : value ≡ short_number xs = sym (short_number-digits size value lt) in
    let ones : units ≡ ones_of (length xs) = count ∙ ap ones_of (sym long) in
    let le : bound ≤ GUARD = omega arith in
    let low : All (λ r. r < GUARD) xs = λ k d within. omega (arith, inside k d within) in
    let known = kept_is value bound units xs le low is ones in
    record {
      room = room value bound units xs (omega arith) le low is ones;
      left = omega (arith, known, sides_sum bound xs, ones);
      marked = omega (arith, known, sides_sum bound xs, ones, marks_sum bound xs);
    }

-- all of them
pub all_marked : (size value units : ℕ) → 0 < size → size ≤ MAX_SHORT_SIZE → value < SHORT_BASE ^ size → All (λ r. r < size) (digits size value)
    → units ≡ ones_of size → AreLowDigits size value (GUARD * units)
all_marked size value units pos most lt inside count =
    let xs : List ℕ = digits size value in
    let long : length xs ≡ size = length-digits size value in
    let sums = number_by-sums 0 0 (under size) one one one xs (λ k d within. every (get_or xs k d) (inside k d within)) in
    let power : SHORT_BASE ^ 1 ≤ SHORT_BASE ^ size = pow-le-pow_right {n = SHORT_BASE} (omega arith) {i = 1} {j = size} (omega (arith, pos)) in
    record {
      bound = size;
      some = omega (arith, ones_exact size, count, power);
      marked = omega (arith, marks_sum size xs, sums, number_by-one xs, ap ones_of long, count);
    }
  where
    every : (r : ℕ) → r < size → under size r + 0 * 1 ≡ 1 + 0 * 1
    every r small = grind (arith, nat_tests)

-- two neighbouring rows exchange their numbers
exchanged_digit : (row r : ℕ) → r + lifted row r + 1 * lifted (row + 2) r ≡ exchanged row r + 2 * lifted (row + 1) r
exchanged_digit row r = grind (arith, nat_tests)

pub exchanged_sum : (row : ℕ) (xs : List ℕ)
    → short_number xs + (short_number (map (lifted row) xs) + short_number (map (lifted (row + 2)) xs))
    ≡ short_number (map (exchanged row) xs) + 2 * short_number (map (lifted (row + 1)) xs)
exchanged_sum row xs =
    let first = number_by-sums 1 0 same (lifted row) (λ r. r + lifted row r) one xs (λ k d inside. omega arith) in
    let both =
    number_by-sums 1 2 (λ r. r + lifted row r) (lifted (row + 2)) (exchanged row) (lifted (row + 1)) xs (λ k d inside. exchanged_digit row (get_or xs k d)) in
    omega (arith, first, both, number_by-same xs)
