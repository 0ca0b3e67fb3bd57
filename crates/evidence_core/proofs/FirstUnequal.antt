-- The first place at which two lists differ, as a pass from the left meets it.
use Rattle.std.proofs.Common.{◌≡◌, ◌≢◌, ◌<◌, ◌≤◌, ◌+◌, ◌∙◌, inl, inr, ℕ, Bool, true, false, List, [], ◌∷◌, Option, Some, None, length, drop, get_or, min, refl}
use Rattle.std.proofs.Common.{sym, ap, ap₂, cond, arith}
use Rattle.std.specs.Option.{option_map}
use Rattle.std.proofs.lemmas.Bool.{cases_lt}
use Rattle.std.proofs.lemmas.List.{drop_more, drop_all, length-drop}
use Rattle.evidence_core.specs.Unequal.{first_unequal}

-- a place that is counted from p
abbrev pub further : ℕ → Option ℕ → Option ℕ
further p o = option_map (λ k. k + p) o

one_further : (p : ℕ) (o : Option ℕ) → further p (option_map (λ k. k + 1) o) ≡ further (p + 1) o
one_further p None = refl
one_further p (Some k) = let e : k + 1 + p ≡ k + (p + 1) = omega arith in ap (λ (n : ℕ). Some n) e

from_zero : (o : Option ℕ) → further 0 o ≡ o
from_zero None = refl
from_zero (Some k) = let e : k + 0 ≡ k = omega arith in ap (λ (n : ℕ). Some n) e

at_zero : (p : ℕ) → further p (Some 0) ≡ Some p
at_zero p = let e : 0 + p ≡ p = omega arith in ap (λ (n : ℕ). Some n) e

pub begun : {A : Type 0} (same : A → A → Bool) (one two : List A)
    → further 0 (first_unequal same (drop 0 one) (drop 0 two)) ≡ first_unequal same one two
begun same one two = from_zero (first_unequal same one two)

parted : {A : Type 0} (xs : List A) (p : ℕ) (d x : A) → p < length xs → x ≡ get_or xs p d → drop p xs ≡ x ∷ drop (p + 1) xs
parted {A} xs p d x within is = drop_more xs p d within ∙ ap (λ (z : A). z ∷ drop (p + 1) xs) (sym is)

-- the elements at the place are the same
pub same_here : {A : Type 0} (same : A → A → Bool) (one two : List A) (p : ℕ) (d x y : A) (total : Option ℕ) → p < length one → p < length two
    → x ≡ get_or one p d → y ≡ get_or two p d → same x y ≡ true → further p (first_unequal same (drop p one) (drop p two)) ≡ total
    → further (p + 1) (first_unequal same (drop (p + 1) one) (drop (p + 1) two)) ≡ total
same_here same one two p d x y total in_one in_two x_is y_is alike so_far =
    let step : first_unequal same (drop p one) (drop p two) ≡ option_map (λ k. k + 1) (first_unequal same (drop (p + 1) one) (drop (p + 1) two)) =
    rw (parted one p d x in_one x_is, parted two p d y in_two y_is, alike) refl in
    sym (one_further p (first_unequal same (drop (p + 1) one) (drop (p + 1) two))) ∙ sym (ap (further p) step) ∙ so_far

-- they are not
pub differ_here : {A : Type 0} (same : A → A → Bool) (one two : List A) (p : ℕ) (d x y : A) (total : Option ℕ) → p < length one → p < length two
    → x ≡ get_or one p d → y ≡ get_or two p d → same x y ≡ false → further p (first_unequal same (drop p one) (drop p two)) ≡ total → Some p ≡ total
differ_here same one two p d x y total in_one in_two x_is y_is other so_far =
    let step : first_unequal same (drop p one) (drop p two) ≡ Some 0 = rw (parted one p d x in_one x_is, parted two p d y in_two y_is, other) refl in
    sym (at_zero p) ∙ sym (ap (further p) step) ∙ so_far

-- both have ended
pub both_end : {A : Type 0} (same : A → A → Bool) (one two : List A) (p : ℕ) (total : Option ℕ) → min (length one) (length two) ≤ p → length one ≡ length two
    → further p (first_unequal same (drop p one) (drop p two)) ≡ total → None ≡ total
both_end same one two p total ended long so_far =
    let step : first_unequal same (drop p one) (drop p two) ≡ None = rw (drop_all p one (omega arith), drop_all p two (omega arith)) refl in
    sym (ap (further p) step) ∙ so_far

nothing_left : {A : Type 0} (same : A → A → Bool) (two : List A) → 0 < length two → first_unequal same [] two ≡ Some 0
nothing_left same [] some = absurd (omega (arith, some))
nothing_left same (b ∷ two) some = refl

nothing_right : {A : Type 0} (same : A → A → Bool) (one : List A) → 0 < length one → first_unequal same one [] ≡ Some 0
nothing_right same [] some = absurd (omega (arith, some))
nothing_right same (a ∷ one) some = refl

-- one of them has ended
pub one_ends : {A : Type 0} (same : A → A → Bool) (one two : List A) (p : ℕ) (total : Option ℕ) → p ≡ min (length one) (length two) → length one ≢ length two
    → further p (first_unequal same (drop p one) (drop p two)) ≡ total → Some p ≡ total
one_ends same one two p total is other so_far =
    let step : first_unequal same (drop p one) (drop p two) ≡ Some 0 = elim (cases_lt (length one) (length two)) [
      | inl less ↦
          let left = length-drop p two in
          rw (drop_all p one (omega (arith, is, less))) (nothing_left same (drop p two) (omega (arith, is, less, left)))
      | inr more ↦
          let left = length-drop p one in
          let longer : length two < length one = omega (arith, more, other) in
          rw (drop_all p two (omega (arith, is, longer))) (nothing_right same (drop p one) (omega (arith, is, longer, left)))
    ] in
    sym (at_zero p) ∙ sym (ap (further p) step) ∙ so_far

-- ---- lists without a place at which they differ are equal, where the test decides equality

option_none : (o : Option ℕ) → option_map (λ k. k + 1) o ≡ None → o ≡ None
option_none None is = refl
option_none (Some k) is = absurd cc

pub equal_of_none : {A : Type 0} (same : A → A → Bool) → ((a b : A) → same a b ≡ true → a ≡ b) → (one two : List A) → first_unequal same one two ≡ None → one ≡ two
equal_of_none same decides [] [] none = refl
equal_of_none same decides [] (b ∷ two) none = absurd cc
equal_of_none same decides (a ∷ one) [] none = absurd cc
equal_of_none {A} same decides (a ∷ one) (b ∷ two) none = by (same a b) refl none (λ rest. equal_of_none same decides one two rest)
  where
    by : (t : Bool) → same a b ≡ t → cond t (option_map (λ k. k + 1) (first_unequal same one two)) (Some 0) ≡ None
        → (first_unequal same one two ≡ None → one ≡ two) → ◌≡◌ {A = List A} (a ∷ one) (b ∷ two)
    by true alike none rest = ap₂ (λ (x : A) (xs : List A). x ∷ xs) (decides a b alike) (rest (option_none (first_unequal same one two) none))
    by false other none rest = absurd cc

pub none_of_equal : {A : Type 0} (same : A → A → Bool) → ((a : A) → same a a ≡ true) → (one : List A) → first_unequal same one one ≡ None
none_of_equal same itself [] = refl
none_of_equal same itself (a ∷ one) = rw (itself a) (ap (λ o. option_map (λ k. k + 1) o) (none_of_equal same itself one))
