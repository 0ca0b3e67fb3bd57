-- Numbers by their digits, place by place.
use Rattle.std.proofs.Common.{◌≢◌, ◌++◌, take, drop, bit_and, ◌≡◌, ◌<◌, ◌≤◌, ◌+◌, ◌-◌, ◌*◌, ◌/◌, ◌%◌, ◌^◌, ◌∙◌, ℕ, zero, suc, List, All, length, get_or, map}
use Rattle.std.proofs.Common.{set, bit_or, bit_xor, arith, refl, sym, ap, ap₂, subst, inl, inr, zero-add}
use Rattle.std.specs.List.{range_with_len}
use Rattle.std.proofs.Math.Nat.{pow-le-pow_right, mod-eq_of_lt}
use Rattle.std.proofs.lemmas.Bool.{cases_lt, cases_eq}
use Rattle.std.proofs.lemmas.Bool.Decides.{nat_tests}
use Rattle.std.proofs.lemmas.Nat.{shl_whole, div-mul-add, or_shr, or_mod, or_lt, xor_shr, xor_mod, xor_lt}
use Rattle.std.proofs.lemmas.List.{get_or_default, get_or-set_same, get_or-set_other, length-set}
use Rattle.std.proofs.lemmas.List.Elements.{All-map, All-set, All-append, All-take, All-drop}
use Rattle.std.proofs.lemmas.List.FromFn.{get_or-range_with_len, length-range_with_len, get_or-map-range_with_len, length-map-range_with_len}
use Rattle.grid_core.specs.Diagram.{IsOneEach}
use Rattle.grid_core.proofs.OneEach.{each_below, each_apart}
use Rattle.grid_moves.specs.Shift.{shifted}
use Rattle.grid_moves.proofs.Shifted.{shifted_below}
use Rattle.grid_canon.specs.declared.digits.TheConstants.{SHORT_BASE, SHORT_BITS, MAX_SHORT_SIZE, GUARD}
use Rattle.grid_canon.specs.Digits.{short_number, digits, lowered_each, mark}
use Rattle.grid_canon.specs.ShortTrades.{next}
use Rattle.grid_keys.proofs.Translated.{origin, origin_cases, cut_at}
use Rattle.grid_canon.proofs.ShortNumbers.{AreShortDigits, short_bits}
use Rattle.grid_canon.proofs.NumbersOfDigits.{base_pos, length-digits, digits-below, short_number-digits}
use Rattle.grid_canon.proofs.Guards.{digit_of, ones_of, marks_below_of, repeated_sum}
use Rattle.grid_canon.proofs.SwappedDigits.{number_set}
use Rattle.grid_canon.proofs.CutNumbers.{length-cut}
use Rattle.grid_canon.proofs.ShortGrids.{read_digits, digits_fit}

-- the digits of a number are these, and it has no more
pub record HasDigits (n : ℕ) (f : ℕ → ℕ) (value : ℕ) : Type 0 where
  pub fits : value < SHORT_BASE ^ n
  pub at : (c : ℕ) → c < n → digit_of n value c ≡ f c

pub has_digits : (n value : ℕ) (f : ℕ → ℕ) → ((c : ℕ) → c < n → f c < SHORT_BASE) → value ≡ short_number (map f (range_with_len 0 n)) → HasDigits n f value
has_digits n value f small is =
    let rows : List ℕ = map f (range_with_len 0 n) in
    let long : length rows ≡ n = length-map-range_with_len f 0 n in
    let all : AreShortDigits rows =
    All-map (λ digit. digit < SHORT_BASE) f (range_with_len 0 n)
    (λ k d within. small (get_or (range_with_len 0 n) k d)
    (omega (arith, within, length-range_with_len 0 n, get_or-range_with_len 0 n k d (omega (arith, within, length-range_with_len 0 n))))) in
    record {
      fits = digits_fit n value rows long all is;
      at = λ c lt. ap (λ xs. get_or xs c 0) (read_digits n value rows long all is) ∙ get_or-map-range_with_len f 0 n c c 0 lt (zero-add c);
    }

-- a bound of all digits, place by place
pub all_digits : (n value bound : ℕ) → ((c : ℕ) → c < n → digit_of n value c < bound) → All (λ r. r < bound) (digits n value)
all_digits n value bound each k d inside =
    omega (arith, each k (omega (arith, inside, length-digits n value)), get_or_default (digits n value) k d 0 inside)

pub each_digit : (n value bound : ℕ) → All (λ r. r < bound) (digits n value) → (c : ℕ) → c < n → digit_of n value c < bound
each_digit n value bound all c lt = all c 0 (omega (arith, lt, length-digits n value))

-- bits
pub digit-or : (n a b c : ℕ) → digit_of n (bit_or a b) c ≡ bit_or (digit_of n a c) (digit_of n b c)
digit-or zero a b c = refl
digit-or (suc n) a b zero =
    ap (λ (z : ℕ). bit_or a b / z) (short_bits n) ∙ or_shr a b (SHORT_BITS * n)
    ∙ ap (λ (z : ℕ). bit_or (a / z) (b / z)) (sym (short_bits n))
digit-or (suc n) a b (suc c) =
    ap (λ (z : ℕ). digit_of n z c)
    (ap (λ (z : ℕ). bit_or a b % z) (short_bits n) ∙ or_mod a b (SHORT_BITS * n) ∙ ap (λ (z : ℕ). bit_or (a % z) (b % z)) (sym (short_bits n)))
    ∙ digit-or n (a % SHORT_BASE ^ n) (b % SHORT_BASE ^ n) c

pub digit-xor : (n a b c : ℕ) → digit_of n (bit_xor a b) c ≡ bit_xor (digit_of n a c) (digit_of n b c)
digit-xor zero a b c = refl
digit-xor (suc n) a b zero =
    ap (λ (z : ℕ). bit_xor a b / z) (short_bits n) ∙ xor_shr a b (SHORT_BITS * n)
    ∙ ap (λ (z : ℕ). bit_xor (a / z) (b / z)) (sym (short_bits n))
digit-xor (suc n) a b (suc c) =
    ap (λ (z : ℕ). digit_of n z c)
    (ap (λ (z : ℕ). bit_xor a b % z) (short_bits n) ∙ xor_mod a b (SHORT_BITS * n) ∙ ap (λ (z : ℕ). bit_xor (a % z) (b % z)) (sym (short_bits n)))
    ∙ digit-xor n (a % SHORT_BASE ^ n) (b % SHORT_BASE ^ n) c

pub or_fits : (n a b : ℕ) → a < SHORT_BASE ^ n → b < SHORT_BASE ^ n → bit_or a b < SHORT_BASE ^ n
or_fits n a b la lb = omega (arith, short_bits n, or_lt (SHORT_BITS * n) a b (omega (arith, la, short_bits n)) (omega (arith, lb, short_bits n)))

pub xor_fits : (n a b : ℕ) → a < SHORT_BASE ^ n → b < SHORT_BASE ^ n → bit_xor a b < SHORT_BASE ^ n
xor_fits n a b la lb = omega (arith, short_bits n, xor_lt (SHORT_BITS * n) a b (omega (arith, la, short_bits n)) (omega (arith, lb, short_bits n)))

-- one digit in all places
pub repeated_digits : (n units digit : ℕ) → digit < SHORT_BASE → units ≡ ones_of n → HasDigits n (λ c. digit) (digit * units)
repeated_digits n units digit small count = has_digits n (digit * units) (λ c. digit) (λ c lt. small) (repeated_sum n units digit count)

-- digits that are below those of another number
pub below_digits : (n value other units : ℕ) → n ≤ MAX_SHORT_SIZE → value < SHORT_BASE ^ n → other < SHORT_BASE ^ n → All (λ r. r < GUARD) (digits n value)
    → All (λ r. r < GUARD) (digits n other) → units ≡ ones_of n
    → HasDigits n (λ c. mark (digit_of n other c) (digit_of n value c)) (GUARD * units - bit_and (value + GUARD * units - other) (GUARD * units))
below_digits n value other units most lt other_lt inside other_inside count =
    has_digits n (GUARD * units - bit_and (value + GUARD * units - other) (GUARD * units)) (λ c. mark (digit_of n other c) (digit_of n value c))
    (λ c within. mark_small (digit_of n other c) (digit_of n value c)) (marks_below_of n value other units most lt other_lt inside other_inside count).marked
  where
    mark_small : (bound r : ℕ) → mark bound r < SHORT_BASE
    mark_small bound r = elim (cases_lt r bound) [ inl lt ↦ grind (arith, nat_tests) | inr ge ↦ grind (arith, nat_tests) ]

-- digits lowered by those of another number
pub lowered_digits_each : (n value by lowered : ℕ) → n ≤ MAX_SHORT_SIZE → All (λ r. r < n) (digits n value) → All (λ r. r < n) (digits n by)
    → lowered ≡ short_number (lowered_each n (digits n value) (digits n by))
    → HasDigits n (λ c. shifted n (digit_of n by c) (digit_of n value c)) lowered
lowered_digits_each n value by lowered most inside by_inside is =
    has_digits n lowered (λ c. shifted n (digit_of n by c) (digit_of n value c))
    (λ c lt. omega (
      arith,
      most,
      shifted_below n (digit_of n by c) (digit_of n value c) (each_digit n by n by_inside c lt) (each_digit n value n inside c lt),
    )) is

-- digits from the second on, and then the first
pub cut_digits : (n value cut : ℕ) → 2 ≤ n → value < SHORT_BASE ^ n → cut ≡ short_number (drop 1 (digits n value) ++ take 1 (digits n value))
    → HasDigits n (λ c. digit_of n value (next n c)) cut
cut_digits n value cut least low is =
    let rows : List ℕ = digits n value in
    let all : AreShortDigits rows = digits-below n value low in
    let long : length (drop 1 rows ++ take 1 rows) ≡ n = length-cut 1 rows (omega (arith, least, length-digits n value)) ∙ length-digits n value in
    let small : AreShortDigits (drop 1 rows ++ take 1 rows) =
    All-append (λ r. r < SHORT_BASE) (drop 1 rows) (take 1 rows) (All-drop (λ r. r < SHORT_BASE) 1 rows all) (All-take (λ r. r < SHORT_BASE) 1 rows all) in
    record {
      fits = digits_fit n cut (drop 1 rows ++ take 1 rows) long small is;
      at = λ c lt. ap (λ xs. get_or xs c 0) (read_digits n cut (drop 1 rows ++ take 1 rows) long small is)
          ∙ cut_at rows n 1 c (length-digits n value) (omega (arith, least)) lt
          ∙ ap (λ (z : ℕ). digit_of n value z) (next_is n c least lt);
    }
  where
    next_is : (n c : ℕ) → 2 ≤ n → c < n → origin n 1 c ≡ next n c
    next_is n c least lt = elim (origin_cases n 1 c (omega (arith, least)) lt) [
      | inl low ↦ grind (arith, nat_tests, low)
      | inr high ↦ grind (arith, nat_tests, high)
    ]

pub next_below : (n c : ℕ) → c < n → next n c < n
next_below n c lt = grind (arith, nat_tests)

-- a digit put in where 0 stands
pub record IsFilled (n value digit place : ℕ) : Type 0 where
  pub turned : digit * 2 ^ (SHORT_BITS * (n - place - 1)) % 2 ^ 64 ≡ digit * 2 ^ (SHORT_BITS * (n - place - 1))
  pub fits : value + digit * 2 ^ (SHORT_BITS * (n - place - 1)) < SHORT_BASE ^ n
  pub list : digits n (value + digit * 2 ^ (SHORT_BITS * (n - place - 1))) ≡ set (digits n value) place digit
  pub word : value + digit * 2 ^ (SHORT_BITS * (n - place - 1)) < 2 ^ 64

pub filled_word : (n value digit place : ℕ) → place < n → n ≤ MAX_SHORT_SIZE → value < SHORT_BASE ^ n → digit < SHORT_BASE → digit_of n value place ≡ 0
    → IsFilled n value digit place
filled_word n value digit place lt most low small free =
    let rows : List ℕ = digits n value in
    let long = length-digits n value in
    let q : ℕ = SHORT_BITS * (n - place - 1) in
    let power : SHORT_BASE ^ (length rows - (place + 1)) ≡ 2 ^ q =
    ap (λ (z : ℕ). SHORT_BASE ^ z) (let e : length rows - (place + 1) ≡ n - place - 1 = omega (arith, long) in e) ∙ short_bits (n - place - 1) in
    let sum : short_number (set rows place digit) + 0 * 2 ^ q ≡ value + digit * 2 ^ q =
    ap₂ (λ (z w : ℕ). short_number (set rows place digit) + z * w) (sym free) (sym power) ∙ number_set rows place digit (omega (arith, lt, long))
    ∙ ap₂ (λ (z w : ℕ). z + digit * w) (short_number-digits n value low) power in
    let count : length (set rows place digit) ≡ n = length-set rows place digit ∙ long in
    let all : AreShortDigits (set rows place digit) = All-set (λ r. r < SHORT_BASE) rows place digit small (digits-below n value low) in
    let is : value + digit * 2 ^ q ≡ short_number (set rows place digit) = omega (arith, sum) in
    let fits = digits_fit n (value + digit * 2 ^ q) (set rows place digit) count all is in
    record {
      turned = shl_whole digit SHORT_BITS q 64 (omega (arith, small)) (omega (arith, lt, most));
      fits = fits;
      list = read_digits n (value + digit * 2 ^ q) (set rows place digit) count all is;
      word = omega (arith, fits, pow-le-pow_right {n = SHORT_BASE} (omega arith) {i = n} {j = MAX_SHORT_SIZE} most);
    }

-- the places of the digits, as far as they are filled in
pub record ArePlaces (n value places k : ℕ) : Type 0 where
  pub fits : places < SHORT_BASE ^ n
  pub seen : (c : ℕ) → c < k → digit_of n places (digit_of n value c) ≡ c
  pub free : (c : ℕ) → k ≤ c → c < n → digit_of n places (digit_of n value c) ≡ 0

pub no_places : (n value : ℕ) → ArePlaces n value 0 0
no_places n value = record {
  fits = base_pos n;
  seen = λ c lt. absurd (omega (arith, lt));
  free = λ c from to. zero_digit n (digit_of n value c);
}
  where
    zero_digit : (n c : ℕ) → digit_of n 0 c ≡ 0
    zero_digit zero c = refl
    zero_digit (suc n) zero =
        ap (λ (z : ℕ). z / SHORT_BASE ^ n) (let e : 0 ≡ 0 * SHORT_BASE ^ n + 0 = omega arith in e) ∙ div-mul-add 0 (SHORT_BASE ^ n) 0 (base_pos n)
    zero_digit (suc n) (suc c) = ap (λ (z : ℕ). digit_of n z c) (mod-eq_of_lt (base_pos n)) ∙ zero_digit n c

pub more_places : (n value places new k : ℕ) → IsOneEach n (digits n value) → ArePlaces n value places k → k < n → new < SHORT_BASE ^ n
    → digits n new ≡ set (digits n places) (digit_of n value k) k → ArePlaces n value new (k + 1)
more_places n value places new k each known lt fits list =
    let long = length-digits n places in
    let row : ℕ = digit_of n value k in
    let within : row < n = each_below n (digits n value) each k 0 (omega (arith, lt, length-digits n value)) in
    let other : (c : ℕ) → c < n → c ≢ k → digit_of n new (digit_of n value c) ≡ digit_of n places (digit_of n value c) =
    λ c inside ne. ap (λ xs. get_or xs (digit_of n value c) 0) list
    ∙ get_or-set_other (digits n places) row (digit_of n value c) k 0
    (λ same. ne (each_apart n (digits n value) each c k (omega (arith, inside, length-digits n value)) (omega (arith, lt, length-digits n value)) same)) in
    record {
      fits = fits;
      seen = λ c le. elim (cases_eq c k) [
        | inl same ↦
            subst (λ (z : ℕ). digit_of n new (digit_of n value z) ≡ z) (sym same)
            (ap (λ xs. get_or xs row 0) list ∙ get_or-set_same (digits n places) row k 0 (omega (arith, within, long)))
        | inr ne ↦ other c (omega (arith, le, lt)) ne ∙ known.seen c (omega (arith, le, ne))
      ];
      free = λ c from to. other c to (λ same. omega (arith, from, same)) ∙ known.free c (omega (arith, from)) to;
    }
