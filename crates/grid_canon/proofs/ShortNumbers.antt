-- Numbers by their digits to the base of short grids.
use Rattle.std.proofs.Common.{◌≡◌, ◌<◌, ◌+◌, ◌*◌, ◌^◌, ◌++◌, ◌∷◌, [], ℕ, List, length, arith, refl}
use Rattle.std.specs.Ordering.{nat_cmp}
use Rattle.std.specs.Cmp.Lexicographic.{slice_cmp}
use Rattle.grid_canon.specs.declared.digits.TheConstants.{SHORT_BASE, SHORT_BITS}
use Rattle.grid_canon.specs.Digits.{short_number}
use Rattle.grid_keys.proofs.NumbersTo.{AreDigitsTo, number_to-append, number_to-below, number_to-push, number_to-order, power_of_two}

abbrev pub AreShortDigits : List ℕ → Type 0
AreShortDigits digits = AreDigitsTo SHORT_BASE digits

pub short_number-append : (xs ys : List ℕ) → short_number (xs ++ ys) ≡ short_number xs * SHORT_BASE ^ length ys + short_number ys
short_number-append = number_to-append SHORT_BASE

pub short_number-below : (digits : List ℕ) → AreShortDigits digits → short_number digits < SHORT_BASE ^ length digits
short_number-below digits all = number_to-below SHORT_BASE digits (omega arith) all

pub short_number-push : (xs : List ℕ) (x : ℕ) → short_number (xs ++ x ∷ []) ≡ short_number xs * SHORT_BASE + x
short_number-push = number_to-push SHORT_BASE

pub short_number-order : (xs ys : List ℕ) → length xs ≡ length ys → AreShortDigits xs → AreShortDigits ys
    → nat_cmp (short_number xs) (short_number ys) ≡ slice_cmp nat_cmp xs ys
short_number-order xs ys same ax ay = number_to-order SHORT_BASE xs ys (omega arith) same ax ay

-- the base as a power of two
pub short_bits : (k : ℕ) → SHORT_BASE ^ k ≡ 2 ^ (SHORT_BITS * k)
short_bits k = power_of_two SHORT_BASE SHORT_BITS k refl
