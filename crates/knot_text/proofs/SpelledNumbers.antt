-- Numbers below 256 in decimal, digit by digit: by computing each.
use Rattle.std.proofs.Common.{◌≡◌, ◌<◌, ◌≤◌, ◌+◌, ◌-◌, ◌/◌, ◌%◌, ◌∷◌, [], ◌∙◌, ℕ, List, Bool, true, sym, ap, refl, arith}
use Rattle.std.specs.Prelude.{nat_eq}
use Rattle.std.specs.List.{range_with_len, list_all}
use Rattle.std.specs.Fmt.{decimal, digits}
use Rattle.std.specs.Cmp.Lexicographic.{pointwise}
use Rattle.std.proofs.lemmas.List.FromFn.{get_or-range_with_len, length-range_with_len}
use Rattle.std.proofs.lemmas.List.Sums.{AllPass-from_list_all}
use Rattle.std.proofs.lemmas.Slice.Eq.{bytes_eq-Decides}

abbrev two_digits : ℕ → List ℕ
two_digits n = (48 + n / 10) ∷ (48 + n % 10) ∷ []

abbrev three_digits : ℕ → List ℕ
three_digits n = (48 + n / 100) ∷ (48 + n / 10 % 10) ∷ (48 + n % 10) ∷ []

abbrev is_spelled : (ℕ → List ℕ) → ℕ → Bool
is_spelled digits n = pointwise nat_eq (decimal n) (digits n)

-- a test of the numbers from a on, at one of them
pub at_one : (p : ℕ → Bool) (a n k : ℕ) → list_all p (range_with_len a n) ≡ true → a ≤ k → k < a + n → p k ≡ true
at_one p a n k all from to =
    let i : k - a < n = omega arith in
    sym (ap p (get_or-range_with_len a n (k - a) 0 i ∙ omega arith))
    ∙ AllPass-from_list_all p (range_with_len a n) all (k - a) 0 (omega (arith, length-range_with_len a n, i))

two_each : list_all (is_spelled two_digits) (range_with_len 10 90) ≡ true
unfolding digits
two_each = refl

three_each : list_all (is_spelled three_digits) (range_with_len 100 156) ≡ true
unfolding digits
three_each = refl

pub two_spelled : (n : ℕ) → 10 ≤ n → n < 100 → decimal n ≡ two_digits n
two_spelled n from to = (bytes_eq-Decides (decimal n) (two_digits n)).0 (at_one (is_spelled two_digits) 10 90 n two_each from (omega arith))

pub three_spelled : (n : ℕ) → 100 ≤ n → n < 256 → decimal n ≡ three_digits n
three_spelled n from to = (bytes_eq-Decides (decimal n) (three_digits n)).0 (at_one (is_spelled three_digits) 100 156 n three_each from (omega arith))
