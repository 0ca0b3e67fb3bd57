-- A text that ends with `different` does not end with `alike`, nor with a number.
use Rattle.std.proofs.Common.{◌≡◌, ◌∙◌, ◌++◌, ◌^◌, ◌<◌, ℕ, List, [], ◌∷◌, Bool, true, false, get_or, reverse, refl, sym, ap, subst, arith, codes, append_assoc}
use Rattle.std.specs.Fmt.{decimal}
use Rattle.std.specs.Char.{digit_value}
use Rattle.std.specs.Str.Parse.{IsNumeral}
use Rattle.std.proofs.lemmas.Fmt.{decimal_is_IsNumeral}
use Rattle.std.proofs.lemmas.List.{reverse-append}
use Rattle.plain_jobs.specs.Comparison.{compared_line, EndsDifferent}

other_ends : (front behind : List ℕ) → front ++ codes "alike\n" ≡ behind ++ codes "different\n" → ⊥
other_ends front behind same =
    let back : reverse (codes "alike\n") ++ reverse front ≡ reverse (codes "different\n") ++ reverse behind =
    sym (reverse-append front (codes "alike\n")) ∙ (ap reverse same ∙ reverse-append behind (codes "different\n")) in
    let wrong : ◌≡◌ {A = ℕ} 101 116 = ap (λ (bytes : List ℕ). get_or bytes 1 0) back in
    absurd (omega (arith, wrong))

-- where a comparison ends with `different`, its test failed
pub told_apart : (front text : List ℕ) (same : Bool) → text ≡ front ++ compared_line same → EndsDifferent text → same ≡ false
told_apart front text true is ends = absurd (other_ends front ends.front (sym is ∙ ends.is))
told_apart front text false is ends = refl

-- ---- a line that ends with a number

-- the last digit of a numeral
record LastDigit (digits : List ℕ) : Type 0 where
  front : List ℕ
  last : ℕ
  is : digits ≡ front ++ last ∷ []
  digit : digit_value last < 10

last_digit : (digits : List ℕ) → IsNumeral 10 digits → LastDigit digits
last_digit [] is = absurd (omega (arith, is.0))
last_digit (d ∷ []) is = record { front = []; last = d; is = refl; digit = is.1.0 }
last_digit (d ∷ e ∷ es) is =
    let rest = last_digit (e ∷ es) (omega arith, is.1.1) in
    record { front = d ∷ rest.front; last = rest.last; is = ap (λ (ds : List ℕ). d ∷ ds) rest.is; digit = rest.digit }

-- it does not end with `different`
pub number_ends : (front text : List ℕ) (n : ℕ) → n < 2 ^ 64 → text ≡ front ++ (decimal n ++ codes "\n") → EndsDifferent text → ⊥
number_ends front text n small is ends =
    let d = last_digit (decimal n) (decimal_is_IsNumeral n small).0 in
    let before = front ++ d.front in
    let digits : decimal n ++ codes "\n" ≡ d.front ++ d.last ∷ codes "\n" =
    ap (λ (ds : List ℕ). ds ++ codes "\n") d.is ∙ append_assoc d.front (d.last ∷ []) (codes "\n") in
    let whole : text ≡ before ++ d.last ∷ codes "\n" =
    is ∙ ap (λ (ds : List ℕ). front ++ ds) digits ∙ sym (append_assoc front d.front (d.last ∷ codes "\n")) in
    let back : reverse (d.last ∷ codes "\n") ++ reverse before ≡ reverse (codes "different\n") ++ reverse ends.front =
    sym (reverse-append before (d.last ∷ codes "\n")) ∙ (ap reverse (sym whole ∙ ends.is) ∙ reverse-append ends.front (codes "different\n")) in
    let letter : d.last ≡ 116 = ap (λ (bytes : List ℕ). get_or bytes 1 0) back in
    let wrong : digit_value 116 < 10 = subst (λ (b : ℕ). digit_value b < 10) letter d.digit in
    absurd (omega (arith, wrong))

-- nor does a text whose last line ends with a space and a number
pub spaced_ends : (old words middle text : List ℕ) (n : ℕ) → n < 2 ^ 64
    → text ≡ old ++ (words ++ (middle ++ (codes " " ++ (decimal n ++ codes "\n")))) → EndsDifferent text → ⊥
spaced_ends old words middle text n small is =
    let ending = decimal n ++ codes "\n" in
    let spaced = middle ++ codes " " in
    let grouped : (old ++ (words ++ spaced)) ++ ending ≡ old ++ (words ++ (middle ++ (codes " " ++ ending))) =
    append_assoc old (words ++ spaced) ending ∙ ap (λ (s : List ℕ). old ++ s) (append_assoc words spaced ending)
    ∙ ap (λ (s : List ℕ). old ++ (words ++ s)) (append_assoc middle (codes " ") ending) in
    number_ends (old ++ (words ++ spaced)) text n small (is ∙ sym grouped)
