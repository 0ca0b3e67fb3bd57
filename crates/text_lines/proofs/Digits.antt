-- The digits of a number.
use Rattle.std.proofs.Common.{◌≡◌, ℕ, ◌<◌, ◌≤◌, ◌==◌, ◌&&◌, Bool, true, false, List, [], ◌∷◌, length, arith, refl}
use Rattle.std.specs.List.{list_all}
use Rattle.std.specs.Char.{digit_value}
use Rattle.std.specs.Str.Parse.{AllDigits}
use Rattle.std.proofs.lemmas.Bool.{and_parts, eqb-true}
use Rattle.std.proofs.lemmas.Bool.Decides.{nat_tests}
use Rattle.std.proofs.lemmas.List.{nil_from_length}
use Rattle.std.proofs.lemmas.Str.{digit_value_digit}
use Rattle.text_lines.specs.NumberTokens.{is_digit, is_number}

digit_bounds : (c : ℕ) → is_digit c ≡ true → (48 ≤ c) × (c ≤ 57)
digit_bounds c is = (grind (arith, nat_tests), grind (arith, nat_tests))

digit_below : (c : ℕ) → is_digit c ≡ true → digit_value c < 10
digit_below c is =
    let b = digit_bounds c is in
    omega (arith, digit_value_digit c b)

digits_all : (ds : List ℕ) → list_all is_digit ds ≡ true → AllDigits 10 ds
digits_all [] is = tt
digits_all (d ∷ ds) is =
    let parts = and_parts (is_digit d) (list_all is_digit ds) is in
    (digit_below d parts.0, digits_all ds parts.1)

number_by : (d : ℕ) (ds : List ℕ) (t : Bool) → (d == 48) ≡ t → is_number (d ∷ ds) ≡ true → AllDigits 10 (d ∷ ds)
number_by d ds true zero is =
    let alone : (length ds == 0) ≡ true = rw zero at is in
    let none : ds ≡ [] = nil_from_length ds (eqb-true (length ds) 0 alone) in
    let digit : is_digit d ≡ true = rw (eqb-true d 48 zero) refl in
    rw none (digit_below d digit, tt)
number_by d ds false zero is =
    let both : (is_digit d && list_all is_digit ds) ≡ true = rw zero at is in
    let parts = and_parts (is_digit d) (list_all is_digit ds) both in
    (digit_below d parts.0, digits_all ds parts.1)

pub number_digits : (token : List ℕ) → is_number token ≡ true → AllDigits 10 token
number_digits [] is = absurd cc
number_digits (d ∷ ds) is = number_by d ds (d == 48) refl is
