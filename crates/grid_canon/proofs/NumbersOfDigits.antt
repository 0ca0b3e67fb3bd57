-- Numbers and their digits.
use Rattle.std.proofs.Common.{◌≡◌, ◌<◌, ◌+◌, ◌*◌, ◌/◌, ◌%◌, ◌^◌, ◌∷◌, [], ◌∙◌, ℕ, zero, suc, List, length, arith, refl, ap, ap₂}
use Rattle.std.proofs.Math.Nat.{pow-succ'}
use Rattle.std.proofs.lemmas.Nat.{div-add-mod', div_below, mod_below, div-mul-add, mod-mul-add, pow_pos}
use Rattle.std.proofs.lemmas.List.Elements.{All-tail, All-cons}
use Rattle.grid_canon.specs.declared.digits.TheConstants.{SHORT_BASE, SHORT_BITS}
use Rattle.grid_canon.specs.Digits.{short_number, digits}
use Rattle.grid_canon.proofs.ShortNumbers.{AreShortDigits, short_number-below, short_bits}

pub base_pos : (n : ℕ) → 0 < SHORT_BASE ^ n
base_pos n = omega (arith, short_bits n, pow_pos (SHORT_BITS * n))

pub length-digits : (n value : ℕ) → length (digits n value) ≡ n
length-digits zero value = refl
length-digits (suc n) value = ap (λ (z : ℕ). suc z) (length-digits n (value % SHORT_BASE ^ n))

first_small : (n value : ℕ) → value < SHORT_BASE ^ suc n → value / SHORT_BASE ^ n < SHORT_BASE
first_small n value lt = div_below value (SHORT_BASE ^ n) SHORT_BASE (base_pos n) (omega (arith, lt, pow-succ' SHORT_BASE n))

pub digits-below : (n value : ℕ) → value < SHORT_BASE ^ n → AreShortDigits (digits n value)
digits-below zero value lt = λ k d inside. absurd (omega (arith, inside))
digits-below (suc n) value lt =
    All-cons (λ digit. digit < SHORT_BASE) (value / SHORT_BASE ^ n) (digits n (value % SHORT_BASE ^ n)) (first_small n value lt)
    (digits-below n (value % SHORT_BASE ^ n) (mod_below value (SHORT_BASE ^ n) (base_pos n)))

pub short_number-digits : (n value : ℕ) → value < SHORT_BASE ^ n → short_number (digits n value) ≡ value
short_number-digits zero value lt = omega (arith, lt)
short_number-digits (suc n) value lt =
    ap₂ (λ (z w : ℕ). value / SHORT_BASE ^ n * SHORT_BASE ^ z + w) (length-digits n (value % SHORT_BASE ^ n))
    (short_number-digits n (value % SHORT_BASE ^ n) (mod_below value (SHORT_BASE ^ n) (base_pos n)))
    ∙ div-add-mod' value (SHORT_BASE ^ n)

pub digits-short_number : (xs : List ℕ) → AreShortDigits xs → digits (length xs) (short_number xs) ≡ xs
digits-short_number [] all = refl
digits-short_number (x ∷ xs) all =
    let rest = All-tail (λ digit. digit < SHORT_BASE) x xs all in
    let low = short_number-below xs rest in
    ap₂ (λ (z : ℕ) zs. z ∷ zs)
    (div-mul-add x (SHORT_BASE ^ length xs) (short_number xs) low)
    (ap (λ (z : ℕ). digits (length xs) z) (mod-mul-add x (SHORT_BASE ^ length xs) (short_number xs) low) ∙ digits-short_number xs rest)
