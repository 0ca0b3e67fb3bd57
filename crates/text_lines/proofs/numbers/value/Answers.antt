use Rattle.std.proofs.Common.{◌≡◌, ◌<◌, ◌≤◌, ◌+◌, ◌*◌, ◌^◌, length, take, get_or, arith, ℕ, List}
use Rattle.std.specs.Str.Parse.{digits_value, AllDigits}
use Rattle.std.proofs.lemmas.Str.{digit_value_digit}
use Rattle.std.proofs.lemmas.Str.Parse.{digit_at, digits_value-take-le}
use Rattle.std.proofs.lemmas.Int.Digits.{digits_value-lt, digits_value_more}
use Rattle.std.proofs.Math.Nat.{pow-le-pow_right}
use Rattle.text_lines.proofs.numbers.value.Goals as goal

-- one digit more
stepped : (c : goal.After-from) → c.loop-byte.value * 10 + c.from.result ≡ digits_value 10 (take (c.loop-byte.byte-index + 1) c.args.digits.now)
stepped c =
    let digits = c.args.digits.now in
    let i = c.loop-byte.byte-index in
    let lt : i < length digits = c.loop-byte-test.true in
    let digit = digit_value_digit (get_or digits i 0) (digit_at digits i c.requires.digits lt) in
    omega (arith, digits_value_more 10 digits i lt, c.loop-byte.invariant, c.from.ensures, digit)

small : (ds : List ℕ) (i : ℕ) → AllDigits 10 ds → length ds ≤ 9 → digits_value 10 (take i ds) < 10 ^ 9
small ds i digits short =
    let more : 10 ^ length ds ≤ 10 ^ 9 = pow-le-pow_right (omega arith) short in
    omega (arith, digits_value-take-le 10 ds i (omega arith), digits_value-lt 10 ds digits, more)

pub overflow_sub-byte : goal.overflow_sub-byte
overflow_sub-byte c = (digit_at c.args.digits.now c.loop-byte.byte-index c.requires.digits c.loop-byte-test.true).0

pub overflow_mul-value : goal.overflow_mul-value
overflow_mul-value c =
    let digits = c.args.digits.now in
    let i = c.loop-byte.byte-index in
    omega (arith, digits_value_more 10 digits i c.loop-byte-test.true, c.loop-byte.invariant, small digits (i + 1) c.requires.digits c.requires.short)

pub overflow_add-value : goal.overflow_add-value
overflow_add-value c = omega (arith, stepped c, small c.args.digits.now (c.loop-byte.byte-index + 1) c.requires.digits c.requires.short)

pub loop-byte-preserved : goal.loop-byte-preserved
loop-byte-preserved c = stepped c
