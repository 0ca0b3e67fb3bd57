-- Half of the digits of a short number to the base of keys, by the bits of two quarters at once.
use Rattle.std.proofs.Common.{◌≡◌, ◌<◌, ◌≤◌, ◌+◌, ◌-◌, ◌*◌, ◌/◌, ◌%◌, ◌^◌, ◌∙◌, ℕ, bit_and, arith, ap, ap₂}
use Rattle.std.proofs.lemmas.Nat.{and_mask, and_block, div-add-mod'}
use Rattle.grid_canon.specs.declared.digits.TheConstants.{SHORT_BASE, SHORT_BITS}
use Rattle.grid_canon.specs.declared.spread.TheConstants.{HALF, QUARTER, SHORT_QUARTER, LONG_QUARTER, LAST_DIGITS, LAST_TWO_DIGITS}
use Rattle.grid_canon.specs.Digits.{digits}
use Rattle.grid_keys.specs.Key.{key_number}
use Rattle.grid_canon.proofs.ShortKeys.{cut_in_two}

-- the bits of a power of the base in both quarters
both_bits : (front back bits : ℕ) → back < LONG_QUARTER → 2 ^ bits ≤ LONG_QUARTER
    → bit_and (front * LONG_QUARTER + back) ((2 ^ bits - 1) * LONG_QUARTER + (2 ^ bits - 1)) ≡ front % 2 ^ bits * LONG_QUARTER + back % 2 ^ bits
both_bits front back bits low few =
    and_block 18 front (2 ^ bits - 1) back (2 ^ bits - 1) low (omega (arith, few))
    ∙ ap₂ (λ (z w : ℕ). z * LONG_QUARTER + w) (and_mask front bits) (and_mask back bits)

-- the three digits of a quarter
quarter_spread : (q : ℕ) → q < SHORT_BASE ^ QUARTER → key_number (digits QUARTER q) + q % SHORT_BASE + 2 * (q % (SHORT_BASE * SHORT_BASE)) ≡ 4 * q
quarter_spread q lt = omega arith

pub record IsSpread (value : ℕ) : Type 0 where
  pub apart_below : value + value / SHORT_QUARTER * (LONG_QUARTER - SHORT_QUARTER) < LONG_QUARTER * SHORT_QUARTER
  pub taken : bit_and (value + value / SHORT_QUARTER * (LONG_QUARTER - SHORT_QUARTER)) LAST_DIGITS + 2 * bit_and
      (value + value / SHORT_QUARTER * (LONG_QUARTER - SHORT_QUARTER)) LAST_TWO_DIGITS ≤ 4 * (value + value / SHORT_QUARTER * (LONG_QUARTER - SHORT_QUARTER))
  pub whole : 4 * (value + value / SHORT_QUARTER * (LONG_QUARTER - SHORT_QUARTER)) - bit_and
      (value + value / SHORT_QUARTER * (LONG_QUARTER - SHORT_QUARTER)) LAST_DIGITS - 2 * bit_and
      (value + value / SHORT_QUARTER * (LONG_QUARTER - SHORT_QUARTER)) LAST_TWO_DIGITS ≡ key_number (digits HALF value)

pub spread_known : (value : ℕ) → value < SHORT_BASE ^ HALF → IsSpread value
spread_known value lt =
    let cut = cut_in_two QUARTER QUARTER value lt in
    let front : ℕ = value / SHORT_QUARTER in
    let back : ℕ = value % SHORT_QUARTER in
    let split : front * SHORT_QUARTER + back ≡ value = div-add-mod' value SHORT_QUARTER in
    let front_below : front < SHORT_QUARTER = cut.front_below in
    let back_below : back < SHORT_QUARTER = cut.back_below in
    let apart : value + front * (LONG_QUARTER - SHORT_QUARTER) ≡ front * LONG_QUARTER + back = omega (arith, split) in
    let last : bit_and (value + front * (LONG_QUARTER - SHORT_QUARTER)) LAST_DIGITS ≡ front % SHORT_BASE * LONG_QUARTER + back % SHORT_BASE =
    ap (λ (z : ℕ). bit_and z LAST_DIGITS) apart ∙ both_bits front back SHORT_BITS (omega (arith, back_below)) (omega arith) in
    let last_two : bit_and (value + front * (LONG_QUARTER - SHORT_QUARTER)) LAST_TWO_DIGITS
    ≡ front % (SHORT_BASE * SHORT_BASE) * LONG_QUARTER + back % (SHORT_BASE * SHORT_BASE) =
    ap (λ (z : ℕ). bit_and z LAST_TWO_DIGITS) apart ∙ both_bits front back (2 * SHORT_BITS) (omega (arith, back_below)) (omega arith) in
    let one = quarter_spread front front_below in
    let two = quarter_spread back back_below in
    let spread : key_number (digits HALF value) ≡ key_number (digits QUARTER front) * LONG_QUARTER + key_number (digits QUARTER back) = cut.spread in
    record {
      apart_below = omega (arith, apart, front_below, back_below);
      taken = omega (arith, apart, last, last_two, one, two);
      whole = omega (arith, apart, last, last_two, one, two, spread);
    }
