-- What a reader keeps of a number, and the number itself, are above the same limits.
use Rattle.std.proofs.Common.{◌≡◌, ◌<◌, ◌≤◌, ◌||◌, inl, inr, ℕ, Bool, true, false, cond, List, [], ◌∷◌, length, map, nat_lt, arith, refl, sym, ap, ◌∙◌}
use Rattle.std.specs.List.{list_any}
use Rattle.std.specs.Fmt.{decimal}
use Rattle.std.specs.Str.Parse.{AllDigits, digits_value}
use Rattle.std.proofs.lemmas.Bool.{lt-ltb, ltb-true}
use Rattle.std.proofs.lemmas.Bool.Decides.{leb_tells}
use Rattle.std.proofs.lemmas.Fmt.{decimal-digits_value, length-decimal-le}
use Rattle.std.proofs.lemmas.Str.Parse.{IsNumeralModel}
use Rattle.text_lines.proofs.Digits.{number_digits}
use Rattle.knot_text.proofs.NumberTexts.{zero_by}
use Rattle.text_lines.specs.declared.numbers.TheConstants.{MAX_DIGITS, OVERLONG}
use Rattle.text_lines.specs.NumberTokens.{is_number}
use Rattle.text_items.specs.declared.reading.TheConstants.{MAX_NUMBER}
use Rattle.text_laws.specs.LineKinds.{is_overlong, worth}

-- OVERLONG stands for a number of too many digits
abbrev pub kept : List ℕ → ℕ
kept token = cond (is_overlong token) OVERLONG (digits_value 10 token)

-- where no number has too many digits, all are kept as they are
short_by : (t : List ℕ) (ts : List (List ℕ)) (b : Bool) → is_overlong t ≡ b → b || list_any is_overlong ts ≡ false
    → (list_any is_overlong ts ≡ false → map kept ts ≡ map worth ts) → map kept (t ∷ ts) ≡ map worth (t ∷ ts)
short_by t ts true is none more = absurd cc
short_by t ts false is none more = rw (is, more none) refl

pub short_kept : (ts : List (List ℕ)) → list_any is_overlong ts ≡ false → map kept ts ≡ map worth ts
short_kept [] none = refl
short_kept (t ∷ ts) none = short_by t ts (is_overlong t) refl none (short_kept ts)

-- ---- a number of too many digits is large

own : IsNumeralModel (λ ds. AllDigits 10 ds) (λ ds. digits_value 10 ds)
own = record { to = λ ds h. h; from = λ ds h. h; same = λ ds h. refl }

long_worth : (t : List ℕ) → is_number t ≡ true → MAX_DIGITS < length t → MAX_NUMBER < worth t
long_worth [] is long = absurd (omega (arith, long))
long_worth (d ∷ ds) is long = elim (leb_tells (worth (d ∷ ds)) MAX_NUMBER) [
  | inl few ↦
      let text : decimal (worth (d ∷ ds)) ≡ d ∷ ds =
      decimal-digits_value own (d ∷ ds) (number_digits (d ∷ ds) is) (omega arith) (zero_by d ds is) (omega (arith, few.1)) in
      let size = length-decimal-le 9 (worth (d ∷ ds)) (omega (arith, few.1)) (omega (arith, few.1)) (omega (arith, few.1)) in
      let same : length (decimal (worth (d ∷ ds))) ≡ length (d ∷ ds) = ap (λ (bs : List ℕ). length bs) text in
      absurd (omega (arith, size, same, long))
  | inr many ↦ many.1
]

above_by : (most : ℕ) (t : List ℕ) (b : Bool) → most ≤ MAX_NUMBER → is_number t ≡ true → is_overlong t ≡ b → nat_lt most (kept t) ≡ nat_lt most (worth t)
above_by most t true few number is =
    let large = long_worth t number (ltb-true MAX_DIGITS (length t) is) in
    rw (is, lt-ltb most OVERLONG (omega (arith, few)), lt-ltb most (worth t) (omega (arith, few, large))) refl
above_by most t false few number is = rw is refl

-- both are above a limit, or neither
pub above_kept : (most : ℕ) (t : List ℕ) → most ≤ MAX_NUMBER → is_number t ≡ true → nat_lt most (kept t) ≡ nat_lt most (worth t)
above_kept most t few number = above_by most t (is_overlong t) few number refl

-- ---- a number that is not above the most

within_by : (most : ℕ) (t : List ℕ) (b : Bool) → most ≤ MAX_NUMBER → is_overlong t ≡ b → nat_lt most (kept t) ≡ false → kept t ≡ worth t
within_by most t true few long is =
    let over : nat_lt most OVERLONG ≡ true = lt-ltb most OVERLONG (omega (arith, few)) in
    let low : nat_lt most OVERLONG ≡ false = rw long at is in
    absurd (let no = sym over ∙ low in cc)
within_by most t false few long is = rw long refl

pub within : (most : ℕ) (t : List ℕ) → most ≤ MAX_NUMBER → is_number t ≡ true → nat_lt most (worth t) ≡ false → kept t ≡ worth t
within most t few is below = within_by most t (is_overlong t) few refl (above_kept most t few is ∙ below)
