-- The number with two neighbouring digits in each other's place.
use Rattle.std.proofs.Common.{◌≡◌, ◌<◌, ◌≤◌, ◌+◌, ◌-◌, ◌*◌, ◌%◌, ◌^◌, ◌∷◌, ◌∙◌, [], ℕ, zero, suc, List, length, get_or, set, arith, sym, ap, ap₂}
use Rattle.std.specs.List.{swap}
use Rattle.std.proofs.Math.Nat.{pow-le-pow_right}
use Rattle.std.proofs.lemmas.Nat.{pow-add, mul-add-lt, shl_whole}
use Rattle.std.proofs.lemmas.Grind.{get_or_default_zero}
use Rattle.std.proofs.lemmas.List.{get_or-set_other, length-set}
use Rattle.grid_canon.specs.declared.digits.TheConstants.{SHORT_BASE, SHORT_BITS, MAX_SHORT_SIZE}
use Rattle.grid_canon.specs.Digits.{short_number, digits}
use Rattle.grid_canon.proofs.Guards.{FULL_BITS}
use Rattle.grid_canon.proofs.ShortNumbers.{short_bits}
use Rattle.grid_canon.proofs.NumbersOfDigits.{base_pos, length-digits, digits-below, short_number-digits}

-- one digit changed
pub number_set : (xs : List ℕ) (i y : ℕ) → i < length xs
    → short_number (set xs i y) + get_or xs i 0 * SHORT_BASE ^ (length xs - (i + 1)) ≡ short_number xs + y * SHORT_BASE ^ (length xs - (i + 1))
number_set [] i y lt = absurd (omega (arith, lt))
number_set (x ∷ xs) zero y lt =
    let power : SHORT_BASE ^ (length (x ∷ xs) - (0 + 1)) ≡ SHORT_BASE ^ length xs = ap (λ (z : ℕ). SHORT_BASE ^ z) (omega arith) in
    ap (λ (z : ℕ). y * SHORT_BASE ^ length xs + short_number xs + x * z) power
    ∙ traded (SHORT_BASE ^ length xs) (short_number xs) x y
    ∙ sym (ap (λ (z : ℕ). x * SHORT_BASE ^ length xs + short_number xs + y * z) power)
  where
    traded : (p a b c : ℕ) → c * p + a + b * p ≡ b * p + a + c * p
    traded p a b c = omega arith
number_set (x ∷ xs) (suc i) y lt =
    let rest = number_set xs i y (omega (arith, lt)) in
    let power : SHORT_BASE ^ (length (x ∷ xs) - (suc i + 1)) ≡ SHORT_BASE ^ (length xs - (i + 1)) = ap (λ (z : ℕ). SHORT_BASE ^ z) (omega arith) in
    let long : SHORT_BASE ^ length (set xs i y) ≡ SHORT_BASE ^ length xs = ap (λ (z : ℕ). SHORT_BASE ^ z) (length-set xs i y) in
    ap₂ (λ (z w : ℕ). x * z + short_number (set xs i y) + get_or xs i 0 * w) long power
    ∙ added (x * SHORT_BASE ^ length xs) (short_number (set xs i y)) (get_or xs i 0 * SHORT_BASE ^ (length xs - (i + 1))) (short_number xs)
    (y * SHORT_BASE ^ (length xs - (i + 1))) rest
    ∙ sym (ap (λ (z : ℕ). x * SHORT_BASE ^ length xs + short_number xs + y * z) power)
  where
    added : (a b c d e : ℕ) → b + c ≡ d + e → a + b + c ≡ a + d + e
    added a b c d e is = omega (arith, is)

swap_sets : (xs : List ℕ) (i j : ℕ) → i < length xs → j < length xs → swap xs i j ≡ set (set xs i (get_or xs j 0)) j (get_or xs i 0)
swap_sets [] i j hi hj = absurd (omega (arith, hi))
swap_sets (x ∷ xs) i j hi hj =
    ap₂ (λ (z w : ℕ). set (set (x ∷ xs) i z) j w) (get_or_default_zero (x ∷ xs) j x hj) (get_or_default_zero (x ∷ xs) i x hi)

-- two neighbours in each other's place
number_swap : (xs : List ℕ) (i : ℕ) → i + 1 < length xs
    → short_number (swap xs i (i + 1)) + (get_or xs i 0 * SHORT_BASE + get_or xs (i + 1) 0) * SHORT_BASE ^ (length xs - i - 2)
    ≡ short_number xs + (get_or xs (i + 1) 0 * SHORT_BASE + get_or xs i 0) * SHORT_BASE ^ (length xs - i - 2)
number_swap xs i lt =
    let a : ℕ = get_or xs i 0 in
    let b : ℕ = get_or xs (i + 1) 0 in
    let once : List ℕ = set xs i b in
    let first = number_set xs i b (omega (arith, lt)) in
    let second = number_set once (i + 1) a (omega (arith, lt, length-set xs i b)) in
    let power : SHORT_BASE ^ (length xs - (i + 1)) ≡ SHORT_BASE * SHORT_BASE ^ (length xs - i - 2) =
    ap (λ (z : ℕ). SHORT_BASE ^ z) (let e : length xs - (i + 1) ≡ 1 + (length xs - i - 2) = omega (arith, lt) in e) ∙ pow-add SHORT_BASE 1 (length xs - i - 2) in
    let behind : SHORT_BASE ^ (length once - (i + 1 + 1)) ≡ SHORT_BASE ^ (length xs - i - 2) =
    ap (λ (z : ℕ). SHORT_BASE ^ z) (omega (arith, length-set xs i b)) in
    let other : get_or once (i + 1) 0 ≡ b = get_or-set_other xs i (i + 1) b 0 (omega arith) in
    ap (λ zs. short_number zs + (a * SHORT_BASE + b) * SHORT_BASE ^ (length xs - i - 2)) (swap_sets xs i (i + 1) (omega (arith, lt)) lt)
    ∙ joined (SHORT_BASE ^ (length xs - i - 2)) a b (short_number xs) (short_number once) (short_number (set once (i + 1) a))
    (ap (λ (z : ℕ). short_number once + a * z) (sym power) ∙ first ∙ ap (λ (z : ℕ). short_number xs + b * z) power)
    (ap₂ (λ (z w : ℕ). short_number (set once (i + 1) a) + z * w) (sym other) (sym behind) ∙ second ∙ ap (λ (z : ℕ). short_number once + a * z) behind)
  where
    joined : (p a b m n o : ℕ) → n + a * (SHORT_BASE * p) ≡ m + b * (SHORT_BASE * p) → o + b * p ≡ n + a * p
        → o + (a * SHORT_BASE + b) * p ≡ m + (b * SHORT_BASE + a) * p
    joined p a b m n o first second = omega (arith, first, second)

-- in a word of 64 bits
pub record IsSwapped (n place value near far : ℕ) : Type 0 where
  pub near_below : near < SHORT_BASE
  pub far_below : far < SHORT_BASE
  pub turned : (far * SHORT_BASE + near) * 2 ^ (SHORT_BITS * (n - place - 2)) % 2 ^ 64 ≡ (far * SHORT_BASE + near) * 2 ^ (SHORT_BITS * (n - place - 2))
  pub kept : (near * SHORT_BASE + far) * 2 ^ (SHORT_BITS * (n - place - 2)) % 2 ^ 64 ≡ (near * SHORT_BASE + far) * 2 ^ (SHORT_BITS * (n - place - 2))
  pub sum : short_number (swap (digits n value) place (place + 1)) + (near * SHORT_BASE + far) * 2 ^ (SHORT_BITS * (n - place - 2))
      ≡ value + (far * SHORT_BASE + near) * 2 ^ (SHORT_BITS * (n - place - 2))
  pub fits : value + (far * SHORT_BASE + near) * 2 ^ (SHORT_BITS * (n - place - 2)) < 2 ^ 64

word_number : (n value : ℕ) → n ≤ MAX_SHORT_SIZE → value < SHORT_BASE ^ n → value < 2 ^ FULL_BITS
word_number n value most low =
    omega (arith, low, short_bits n, pow-le-pow_right {n = 2} (omega arith) {i = SHORT_BITS * n} {j = FULL_BITS} (omega (arith, most)))

pair-below : (k pair : ℕ) → pair < 2 ^ (SHORT_BITS + SHORT_BITS) → k + 2 ≤ MAX_SHORT_SIZE → pair * 2 ^ (SHORT_BITS * k) < 2 ^ FULL_BITS
pair-below k pair low le =
    omega (
      arith,
      mul-add-lt pair (2 ^ (SHORT_BITS * k)) 0 (2 ^ (SHORT_BITS + SHORT_BITS)) low (omega (arith, base_pos k, short_bits k)),
      pow-add 2 (SHORT_BITS * k) (SHORT_BITS + SHORT_BITS),
      pow-le-pow_right {n = 2} (omega arith) {i = SHORT_BITS * k + (SHORT_BITS + SHORT_BITS)} {j = FULL_BITS} (omega (arith, le)),
    )

two_digits-below : (a b : ℕ) → a < SHORT_BASE → b < SHORT_BASE → a * SHORT_BASE + b < 2 ^ (SHORT_BITS + SHORT_BITS)
two_digits-below a b ha hb = omega (arith, ha, hb)

pub swapped_word : (value place n near far : ℕ) → place + 1 < n → n ≤ MAX_SHORT_SIZE → value < SHORT_BASE ^ n → near ≡ get_or (digits n value) place 0
    → far ≡ get_or (digits n value) (place + 1) 0 → IsSwapped n place value near far
swapped_word value place n near far lt most low is_near is_far =
    let rows : List ℕ = digits n value in
    let long = length-digits n value in
    let all = digits-below n value low in
    let hn : near < SHORT_BASE = omega (arith, is_near, all place 0 (omega (arith, lt, long))) in
    let hf : far < SHORT_BASE = omega (arith, is_far, all (place + 1) 0 (omega (arith, lt, long))) in
    let q : ℕ = SHORT_BITS * (n - place - 2) in
    let room : SHORT_BITS + SHORT_BITS + q ≤ 64 = omega (arith, lt, most) in
    let power : SHORT_BASE ^ (length rows - place - 2) ≡ 2 ^ q = ap (λ (z : ℕ). SHORT_BASE ^ (z - place - 2)) long ∙ short_bits (n - place - 2) in
    let turned = two_digits-below far near hf hn in
    let kept = two_digits-below near far hn hf in
    record {
      near_below = hn;
      far_below = hf;
      turned = shl_whole (far * SHORT_BASE + near) (SHORT_BITS + SHORT_BITS) q 64 turned room;
      kept = shl_whole (near * SHORT_BASE + far) (SHORT_BITS + SHORT_BITS) q 64 kept room;
      sum = ap₂ (λ (z w : ℕ). short_number (swap rows place (place + 1)) + z * w)
          (ap₂ (λ (z w : ℕ). z * SHORT_BASE + w) is_near is_far) (sym power)
          ∙ number_swap rows place (omega (arith, lt, long))
          ∙ ap (λ (z : ℕ). z + (get_or rows (place + 1) 0 * SHORT_BASE + get_or rows place 0) * SHORT_BASE ^ (length rows - place - 2))
          (short_number-digits n value low)
          ∙ ap₂ (λ (z w : ℕ). value + z * w) (ap₂ (λ (z w : ℕ). z * SHORT_BASE + w) (sym is_far) (sym is_near)) power;
      fits = omega (arith, word_number n value most low, pair-below (n - place - 2) (far * SHORT_BASE + near) turned (omega (arith, lt, most)));
    }
