-- A word that is moved up until one of its digits stands on top.
use Rattle.std.proofs.Common.{◌≡◌, ◌≢◌, ◌+◌, ◌-◌, ◌*◌, ◌/◌, ◌%◌, ◌^◌, ◌∙◌, ℕ, List, arith, sym, ap, ap₂, slice_index}
use Rattle.std.proofs.lemmas.Nat.{field_of, mul-mod_first, pow-add, shl-shr, shr-shr}
use Rattle.std.proofs.Math.Nat.{mul_assoc}
use Rattle.grid_keys.specs.declared.key.TheConstants.{BASE, BITS_BEHIND_TOP, DIGIT_BITS, SPARE_BITS, WORD_COLUMNS}
use Rattle.grid_keys.specs.Key.{digit_at}
use Rattle.grid_keys.proofs.Numbers.{base_bits}

-- the word of column c, moved up until the digit of c stands on top
abbrev pub on_top : List ℕ → ℕ → ℕ
on_top ws c = slice_index ws (c / WORD_COLUMNS) * 2 ^ (SPARE_BITS + DIGIT_BITS * (c % WORD_COLUMNS)) % 2 ^ 128

-- moved up by s bits, of which with t more it would be too far by a digit
top_field : (w s t : ℕ) → s + t ≡ BITS_BEHIND_TOP → w * 2 ^ s % 2 ^ 128 / 2 ^ BITS_BEHIND_TOP ≡ w / 2 ^ t % 2 ^ DIGIT_BITS
top_field w s t whole =
    field_of (w * 2 ^ s) DIGIT_BITS BITS_BEHIND_TOP
    ∙ ap (λ (z : ℕ). z % 2 ^ DIGIT_BITS)
    (ap (λ (k : ℕ). w * 2 ^ s / 2 ^ k) (sym whole) ∙ sym (shr-shr (w * 2 ^ s) s t) ∙ ap (λ (z : ℕ). z / 2 ^ t) (shl-shr w s))

pub top_digit : (ws : List ℕ) (c : ℕ) → on_top ws c / 2 ^ BITS_BEHIND_TOP ≡ digit_at ws c
top_digit ws c =
    let after : ℕ = WORD_COLUMNS - 1 - c % WORD_COLUMNS in
    top_field (slice_index ws (c / WORD_COLUMNS)) (SPARE_BITS + DIGIT_BITS * (c % WORD_COLUMNS)) (DIGIT_BITS * after) (omega arith)
    ∙ ap (λ (z : ℕ). slice_index ws (c / WORD_COLUMNS) / z % BASE) (sym (base_bits after))

pub first_on_top : (ws : List ℕ) (c : ℕ) → c % WORD_COLUMNS ≡ 0 → slice_index ws (c / WORD_COLUMNS) * 2 ^ SPARE_BITS % 2 ^ 128 ≡ on_top ws c
first_on_top ws c first =
    ap (λ (k : ℕ). slice_index ws (c / WORD_COLUMNS) * 2 ^ k % 2 ^ 128)
    (let bits : SPARE_BITS ≡ SPARE_BITS + DIGIT_BITS * (c % WORD_COLUMNS) = omega (arith, first) in bits)

moved_on : (w s : ℕ) → w * 2 ^ s % 2 ^ 128 * 2 ^ DIGIT_BITS % 2 ^ 128 ≡ w * 2 ^ (s + DIGIT_BITS) % 2 ^ 128
moved_on w s =
    mul-mod_first (w * 2 ^ s) (2 ^ DIGIT_BITS) (2 ^ 128)
    ∙ ap (λ (z : ℕ). z % 2 ^ 128) (mul_assoc w (2 ^ s) (2 ^ DIGIT_BITS) ∙ ap (λ (z : ℕ). w * z) (sym (pow-add 2 s DIGIT_BITS)))

pub next_on_top : (ws : List ℕ) (c : ℕ) → (c + 1) % WORD_COLUMNS ≢ 0 → on_top ws c * 2 ^ DIGIT_BITS % 2 ^ 128 ≡ on_top ws (c + 1)
next_on_top ws c inside =
    let word : c / WORD_COLUMNS ≡ (c + 1) / WORD_COLUMNS = omega (arith, inside) in
    let bits : SPARE_BITS + DIGIT_BITS * (c % WORD_COLUMNS) + DIGIT_BITS ≡ SPARE_BITS + DIGIT_BITS * ((c + 1) % WORD_COLUMNS) = omega (arith, inside) in
    moved_on (slice_index ws (c / WORD_COLUMNS)) (SPARE_BITS + DIGIT_BITS * (c % WORD_COLUMNS))
    ∙ ap₂ (λ (k s : ℕ). slice_index ws k * 2 ^ s % 2 ^ 128) word bits
