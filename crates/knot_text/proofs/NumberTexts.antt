-- A number has one spelling, and it is read again.
use Rattle.std.proofs.Common.{◌≡◌, ◌<◌, ◌≤◌, ◌^◌, ◌⊎◌, inl, inr, ◌==◌, ℕ, zero, suc, Bool, true, false, cond, List, [], ◌∷◌, length, slice_index, ◌↔◌, Some}
use Rattle.std.proofs.Common.{None, IsSome, nat_lt, arith, refl, sym, ap, ◌∙◌}
use Rattle.std.specs.Fmt.{decimal}
use Rattle.std.specs.List.{list_all}
use Rattle.std.specs.Char.{digit_value}
use Rattle.std.specs.Str.Parse.{AllDigits, digits_value}
use Rattle.std.proofs.lemmas.Bool.{and_from, eqb-true, eq-eqb, le-ltb, ltb-true, ltb-false}
use Rattle.std.proofs.lemmas.Bool.Decides.{nat_tests}
use Rattle.std.proofs.lemmas.Fmt.{decimal_is_IsNumeral, decimal-digits_value, decimal_nonempty, first_decimal, length-decimal-le, decimal_digit}
use Rattle.std.proofs.lemmas.Int.Digits.{digits_value-lt}
use Rattle.std.proofs.lemmas.Str.Parse.{IsNumeralModel, digit_from_value}
use Rattle.std.proofs.Math.Nat.{pow-le-pow_right}
use Rattle.std.proofs.lemmas.Option.{cond_some}
use Rattle.text_lines.specs.declared.numbers.TheConstants.{MAX_DIGITS, OVERLONG}
use Rattle.text_lines.specs.NumberTokens.{is_digit, is_number, number_of}
use Rattle.text_lines.proofs.Digits.{number_digits}

own : IsNumeralModel (λ ds. AllDigits 10 ds) (λ ds. digits_value 10 ds)
own = record { to = λ ds h. h; from = λ ds h. h; same = λ ds h. refl }

-- ---- what has the form

-- at least one digit, and with a 0 in front no other
record HasForm (token : List ℕ) : Type 0 where
  some : 0 < length token
  zero_alone : slice_index token 0 ≡ 48 → length token ≡ 1
  digits : AllDigits 10 token

pub zero_by : (d : ℕ) (ds : List ℕ) → is_number (d ∷ ds) ≡ true → d ≡ 48 → length (d ∷ ds) ≡ 1
zero_by d ds is first =
    let alone : (length ds == 0) ≡ true = rw first at is in
    omega (arith, eqb-true (length ds) 0 alone)

form_of : (token : List ℕ) → is_number token ≡ true → HasForm token
form_of [] is = absurd cc
form_of (d ∷ ds) is = record { some = omega arith; zero_alone = zero_by d ds is; digits = number_digits (d ∷ ds) is }

-- ---- and what a decimal has

digit_is : (c : ℕ) → digit_value c < 10 → is_digit c ≡ true
digit_is c lt = let r = digit_from_value c lt in grind (arith, nat_tests)

digits_test : (ds : List ℕ) → AllDigits 10 ds → list_all is_digit ds ≡ true
digits_test [] all = refl
digits_test (d ∷ ds) all = and_from (is_digit d) (list_all is_digit ds) (digit_is d all.0) (digits_test ds all.1)

test_by : (d : ℕ) (ds : List ℕ) → AllDigits 10 (d ∷ ds) → (d ≡ 48 → length (d ∷ ds) ≡ 1) → (t : Bool) → (d == 48) ≡ t → is_number (d ∷ ds) ≡ true
test_by d ds all alone true is = rw is (eq-eqb (length ds) 0 (omega (arith, alone (eqb-true d 48 is))))
test_by d ds all alone false is = rw is (digits_test (d ∷ ds) all)

number_test : (token : List ℕ) → 0 < length token → AllDigits 10 token → (slice_index token 0 ≡ 48 → length token ≡ 1) → is_number token ≡ true
number_test [] some all alone = absurd (omega (arith, some))
number_test (d ∷ ds) some all alone = test_by d ds all alone (d == 48) refl

zero_decimal : (n : ℕ) → n < 1000000000 → slice_index (decimal n) 0 ≡ 48 → length (decimal n) ≡ 1
zero_decimal zero small first = ap (λ (ds : List ℕ). length ds) (decimal_digit 0 (omega arith))
zero_decimal (suc n) small first = absurd (omega (arith, first_decimal (suc n) (omega arith) (omega arith)))

pub decimal_read : (n : ℕ) → n < 1000000000 → number_of (decimal n) ≡ Some n
decimal_read n small =
    let is = decimal_is_IsNumeral n (omega arith) in
    let form : is_number (decimal n) ≡ true = number_test (decimal n) (decimal_nonempty n (omega arith)) is.0.1 (zero_decimal n small) in
    let short : nat_lt MAX_DIGITS (length (decimal n)) ≡ false =
    le-ltb MAX_DIGITS (length (decimal n)) (length-decimal-le 9 n (omega arith) (omega arith) (omega arith)) in
    rw (form, short) (ap (λ (v : ℕ). Some v) is.1)

-- ---- the one spelling

-- what was read: a short number and its value, or a long one
abbrev Reads : List ℕ → ℕ → Type 0
Reads token n = ((length token ≤ MAX_DIGITS) × (digits_value 10 token ≡ n)) ⊎ ((MAX_DIGITS < length token) × (n ≡ OVERLONG))

reads_by : (token : List ℕ) (n : ℕ) (t : Bool) → nat_lt MAX_DIGITS (length token) ≡ t → cond t OVERLONG (digits_value 10 token) ≡ n → Reads token n
reads_by token n true is e = inr (ltb-true MAX_DIGITS (length token) is, sym e)
reads_by token n false is e = inl (ltb-false MAX_DIGITS (length token) is, e)

short_value : (token : List ℕ) → AllDigits 10 token → length token ≤ MAX_DIGITS → digits_value 10 token < 1000000000
short_value token digits short =
    let pow : 10 ^ length token ≤ 10 ^ 9 = pow-le-pow_right (omega arith) short in
    omega (arith, digits_value-lt 10 token digits, pow)

number_facts : (token : List ℕ) (n : ℕ) → number_of token ≡ Some n → HasForm token × Reads token n
number_facts token n e =
    let g = cond_some (is_number token) (cond (nat_lt MAX_DIGITS (length token)) OVERLONG (digits_value 10 token)) n e in
    (form_of token g.0, reads_by token n (nat_lt MAX_DIGITS (length token)) refl g.1)

pub number_range : (token : List ℕ) (n : ℕ) → number_of token ≡ Some n → (n < 1000000000) ⊎ ((n ≡ OVERLONG) × (MAX_DIGITS < length token))
number_range token n e =
    let f = number_facts token n e in
    elim f.1 [
      | inl short ↦ inl (omega (arith, short_value token f.0.digits short.0, short.1))
      | inr long ↦ inr (long.1, long.0)
    ]

pub number_spelling : (token : List ℕ) (n : ℕ) → number_of token ≡ Some n → n < 1000000000 → token ≡ decimal n
number_spelling token n e small =
    let f = number_facts token n e in
    elim f.1 [
      | inl short ↦
          let low = short_value token f.0.digits short.0 in
          let text : decimal (digits_value 10 token) ≡ token = decimal-digits_value own token f.0.digits f.0.some f.0.zero_alone (omega arith) in
          sym text ∙ ap decimal short.1
      | inr long ↦ absurd (omega (arith, long.1))
    ]

-- ---- what is read at all

some_of : {A : Type 0} (b : Bool) (x : A) → b ≡ true → IsSome (cond b (Some x) None)
some_of true x is = refl
some_of false x is = absurd cc

some_from : {A : Type 0} (b : Bool) (x : A) → IsSome (cond b (Some x) None) → b ≡ true
some_from true x some = refl
some_from false x some = absurd cc

abbrev as_read : List ℕ → ℕ
as_read token = cond (nat_lt MAX_DIGITS (length token)) OVERLONG (digits_value 10 token)

pub read_by_form : (token : List ℕ)
    → IsSome (number_of token) ↔ ((0 < length token) × AllDigits 10 token × (slice_index token 0 ≡ 48 → length token ≡ 1))
read_by_form token = (
  λ some. (let form = form_of token (some_from (is_number token) (as_read token) some) in (form.some, form.digits, form.zero_alone)),
  λ form. some_of (is_number token) (as_read token) (number_test token form.0 form.1 form.2),
)
