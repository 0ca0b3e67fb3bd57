-- Numbers by their digits to any base.
use Rattle.std.proofs.Common.{◌≡◌, ◌<◌, ◌+◌, ◌*◌, ◌^◌, ◌++◌, ◌∷◌, [], ◌∙◌, ℕ, zero, suc, List, All, length, replicate, arith, sym, refl, ap, ap₂, inl, inr}
use Rattle.std.proofs.Common.{length-append}
use Rattle.std.proofs.Math.Nat.{pow-zero, pow-succ', mul_comm}
use Rattle.std.proofs.lemmas.Nat.{pow-add, mul-add-lt}
use Rattle.std.proofs.lemmas.Bool.{cases_order}
use Rattle.std.proofs.lemmas.List.{length-replicate}
use Rattle.std.proofs.lemmas.List.Elements.{All-tail}
use Rattle.std.specs.Ordering.{nat_cmp, ordering_then}
use Rattle.std.specs.Cmp.Lexicographic.{slice_cmp}
use Rattle.grid_keys.specs.KeyNumbers.{number_to}
use Rattle.grid_keys.proofs.Ordered.{nat_cmp_less, nat_cmp_greater, nat_cmp_same}

abbrev pub AreDigitsTo : ℕ → List ℕ → Type 0
AreDigitsTo base digits = All (λ digit. digit < base) digits

-- a lower first digit makes a lower number
pub less_head : (x p rest y : ℕ) → x < y → rest < p → x * p + rest < y * p
less_head x p rest y lt low = omega (arith, mul-add-lt x p rest y lt low, mul_comm p y)

pub number_to-append : (base : ℕ) (xs ys : List ℕ) → number_to base (xs ++ ys) ≡ number_to base xs * base ^ length ys + number_to base ys
number_to-append base [] ys = omega arith
number_to-append base (x ∷ xs) ys =
    let power : base ^ length (xs ++ ys) ≡ base ^ length xs * base ^ length ys =
    ap (λ (z : ℕ). base ^ z) (length-append xs ys) ∙ pow-add base (length xs) (length ys) in
    ap₂ (λ (z w : ℕ). x * z + w) power (number_to-append base xs ys)
    ∙ regrouped x (base ^ length xs) (base ^ length ys) (number_to base xs) (number_to base ys)
  where
    regrouped : (a b c d e : ℕ) → a * (b * c) + (d * c + e) ≡ (a * b + d) * c + e
    regrouped a b c d e = omega arith

pub number_to-below : (base : ℕ) (digits : List ℕ) → 0 < base → AreDigitsTo base digits → number_to base digits < base ^ length digits
number_to-below base [] pos all = omega (arith, pow-zero base)
number_to-below base (x ∷ xs) pos all =
    let head : x < base = all 0 0 (omega arith) in
    let rest = number_to-below base xs pos (All-tail (λ digit. digit < base) x xs all) in
    omega (arith, less_head x (base ^ length xs) (number_to base xs) base head rest, pow-succ' base (length xs))

pub number_to-push : (base : ℕ) (xs : List ℕ) (x : ℕ) → number_to base (xs ++ x ∷ []) ≡ number_to base xs * base + x
number_to-push base xs x =
    number_to-append base xs (x ∷ [])
    ∙ ap₂ (λ (z w : ℕ). number_to base xs * z + (x * w + 0)) (pow-succ' base 0 ∙ ap (λ (z : ℕ). base * z) (pow-zero base)) (pow-zero base)
    ∙ simpler (number_to base xs) base x
  where
    simpler : (a b c : ℕ) → a * (b * 1) + (c * 1 + 0) ≡ a * b + c
    simpler a b c = omega arith

-- zeros behind the digits
number_to-zeros : (base k : ℕ) → number_to base (replicate k 0) ≡ 0
number_to-zeros base zero = refl
number_to-zeros base (suc k) = omega (arith, number_to-zeros base k)

pub number_to-filled : (base : ℕ) (xs : List ℕ) (k : ℕ) → number_to base (xs ++ replicate k 0) ≡ number_to base xs * base ^ k
number_to-filled base xs k =
    number_to-append base xs (replicate k 0)
    ∙ ap₂ (λ (z w : ℕ). number_to base xs * base ^ z + w) (length-replicate k 0) (number_to-zeros base k)
    ∙ nothing_more (number_to base xs * base ^ k)
  where
    nothing_more : (a : ℕ) → a + 0 ≡ a
    nothing_more a = omega arith

-- numbers with as many digits are in the order of their lists
pub number_to-order : (base : ℕ) (xs ys : List ℕ) → 0 < base → length xs ≡ length ys → AreDigitsTo base xs → AreDigitsTo base ys
    → nat_cmp (number_to base xs) (number_to base ys) ≡ slice_cmp nat_cmp xs ys
number_to-order base [] [] pos same ax ay = refl
number_to-order base [] (y ∷ ys) pos same ax ay = absurd (omega (arith, same))
number_to-order base (x ∷ xs) [] pos same ax ay = absurd (omega (arith, same))
number_to-order base (x ∷ xs) (y ∷ ys) pos same ax ay =
    let all_x = All-tail (λ digit. digit < base) x xs ax in
    let all_y = All-tail (λ digit. digit < base) y ys ay in
    let rest_x = number_to-below base xs pos all_x in
    let rest_y = number_to-below base ys pos all_y in
    let one : length xs ≡ length ys = omega (arith, same) in
    let power : base ^ length xs ≡ base ^ length ys = ap (λ (z : ℕ). base ^ z) one in
    let power_at : (z : ℕ) → z * base ^ length xs ≡ z * base ^ length ys = λ z. ap (λ (w : ℕ). z * w) power in
    let more = number_to-order base xs ys pos one all_x all_y in
    elim (cases_order x y) [
      | inl e ↦
          ap (λ (z : ℕ). nat_cmp z (y * base ^ length ys + number_to base ys)) (ap₂ (λ (z w : ℕ). z * w + number_to base xs) e power)
          ∙ shifted_order (y * base ^ length ys) (number_to base xs) (number_to base ys)
          ∙ more
          ∙ sym (ap (λ o. ordering_then o (slice_cmp nat_cmp xs ys)) (nat_cmp_same x y e))
      | inr other ↦ elim other [
        | inl lt ↦
            let head = less_head x (base ^ length ys) (number_to base xs) y lt (omega (arith, rest_x, power)) in
            nat_cmp_less (number_to base (x ∷ xs)) (number_to base (y ∷ ys)) (omega (arith, head, power_at x))
            ∙ sym (ap (λ o. ordering_then o (slice_cmp nat_cmp xs ys)) (nat_cmp_less x y lt))
        | inr gt ↦
            let head = less_head y (base ^ length xs) (number_to base ys) x gt (omega (arith, rest_y, power)) in
            nat_cmp_greater (number_to base (x ∷ xs)) (number_to base (y ∷ ys)) (omega (arith, head, power_at y))
            ∙ sym (ap (λ o. ordering_then o (slice_cmp nat_cmp xs ys)) (nat_cmp_greater x y gt))
      ]
    ]
  where
    shifted_order : (a b c : ℕ) → nat_cmp (a + b) (a + c) ≡ nat_cmp b c
    shifted_order a b c = elim (cases_order b c) [
      | inl e ↦ nat_cmp_same (a + b) (a + c) (omega (arith, e)) ∙ sym (nat_cmp_same b c e)
      | inr other ↦ elim other [
        | inl lt ↦ nat_cmp_less (a + b) (a + c) (omega (arith, lt)) ∙ sym (nat_cmp_less b c lt)
        | inr gt ↦ nat_cmp_greater (a + b) (a + c) (omega (arith, gt)) ∙ sym (nat_cmp_greater b c gt)
      ]
    ]

-- a base that is a power of two
pub power_of_two : (base bits k : ℕ) → base ≡ 2 ^ bits → base ^ k ≡ 2 ^ (bits * k)
power_of_two base bits zero e = pow-zero base ∙ sym (ap (λ (z : ℕ). 2 ^ z) (let none : bits * zero ≡ 0 = omega arith in none) ∙ pow-zero 2)
power_of_two base bits (suc k) e =
    pow-succ' base k
    ∙ ap₂ (λ (z w : ℕ). z * w) e (power_of_two base bits k e)
    ∙ sym (ap (λ (z : ℕ). 2 ^ z) (let sum : bits * suc k ≡ bits + bits * k = omega arith in sum) ∙ pow-add 2 bits (bits * k))
