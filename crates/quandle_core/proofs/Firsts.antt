-- The first case with an answer.
use Rattle.std.proofs.Common.{◌≡◌, ◌<◌, ◌≤◌, ◌+◌, ◌++◌, ◌∙◌, ◌-◌, ◌⊎◌, inl, inr, ℕ, zero, suc, List, [], ◌∷◌, Bool, true, false, Option, Some, None, refl, sym}
use Rattle.std.proofs.Common.{ap, arith}
use Rattle.std.specs.List.{range_with_len}
use Rattle.std.proofs.lemmas.Bool.{cases_lt}
use Rattle.quandle_core.specs.Fault.{first_of, first, or_else, unless}

range_longer : (a n m : ℕ) → m ≡ suc n → range_with_len a m ≡ range_with_len a n ++ (a + n) ∷ []
range_longer a zero m e = ap (range_with_len a) e ∙ ap (λ (b : ℕ). b ∷ []) (omega arith)
range_longer a (suc n) m e =
    ap (range_with_len a) e ∙ ap (λ (xs : List ℕ). a ∷ xs) (range_longer (a + 1) n (suc n) refl ∙ ap (λ (b : ℕ). range_with_len (a + 1) n ++ b ∷ [])
    (omega arith))

or_else_assoc : {A : Type 0} (a b c : Option A) → or_else (or_else a b) c ≡ or_else a (or_else b c)
or_else_assoc (Some a) b c = refl
or_else_assoc None b c = refl

pub or_else_none : {A : Type 0} (a : Option A) → or_else a None ≡ a
or_else_none (Some a) = refl
or_else_none None = refl

first_of-append : {A : Type 0} (at : ℕ → Option A) (xs ys : List ℕ) → first_of at (xs ++ ys) ≡ or_else (first_of at xs) (first_of at ys)
first_of-append at [] ys = refl
first_of-append at (x ∷ xs) ys = ap (or_else (at x)) (first_of-append at xs ys) ∙ sym (or_else_assoc (at x) (first_of at xs) (first_of at ys))

-- one case more
pub first_step : {A : Type 0} (at : ℕ → Option A) (n : ℕ) → first (n + 1) at ≡ or_else (first n at) (at n)
first_step at n =
    let last : 0 + n ≡ n = omega arith in
    ap (first_of at) (range_longer 0 n (n + 1) (omega arith))
    ∙ (first_of-append at (range_with_len 0 n) ((0 + n) ∷ [])
    ∙ (ap (or_else (first n at)) (or_else_none (at (0 + n))) ∙ ap (λ (k : ℕ). or_else (first n at) (at k)) last))

-- no case so far, and none here
pub first_more : {A : Type 0} (at : ℕ → Option A) (n : ℕ) → first n at ≡ None → at n ≡ None → first (n + 1) at ≡ None
first_more at n so_far here = first_step at n ∙ (ap (λ o. or_else o (at n)) so_far ∙ here)

found_from : {A : Type 0} (at : ℕ → Option A) (x : ℕ) (a : A) (k : ℕ) → first x at ≡ None → at x ≡ Some a → first (x + 1 + k) at ≡ Some a
found_from at x a zero so_far here = ap (λ n. first n at) (num x) ∙ (first_step at x ∙ (ap (λ o. or_else o (at x)) so_far ∙ here))
  where
    num : (x : ℕ) → x + 1 + 0 ≡ x + 1
    num x = omega arith
found_from at x a (suc k) so_far here =
    ap (λ n. first n at) (num x k) ∙ (first_step at (x + 1 + k) ∙ ap (λ o. or_else o (at (x + 1 + k))) (found_from at x a k so_far here))
  where
    num : (x k : ℕ) → x + 1 + suc k ≡ x + 1 + k + 1
    num x k = omega arith

-- the first case here is the first of all
pub first_found : {A : Type 0} (at : ℕ → Option A) (n x : ℕ) (a : A) → x < n → first x at ≡ None → at x ≡ Some a → first n at ≡ Some a
first_found at n x a lt so_far here = ap (λ k. first k at) (num n x lt) ∙ found_from at x a (n - (x + 1)) so_far here
  where
    num : (n x : ℕ) → x < n → n ≡ x + 1 + (n - (x + 1))
    num n x lt = omega arith

none_left : {A : Type 0} (a b : Option A) → or_else a b ≡ None → a ≡ None
none_left (Some a) b e = e
none_left None b e = refl

none_right : {A : Type 0} (a b : Option A) → or_else a b ≡ None → b ≡ None
none_right (Some a) b e = absurd (cc)
none_right None b e = e

pub both_none : {A : Type 0} (a b : Option A) → or_else a b ≡ None → (a ≡ None) × (b ≡ None)
both_none a b e = (none_left a b e, none_right a b e)

-- where no case has an answer, none below has
pub first_none : {A : Type 0} (at : ℕ → Option A) (n x : ℕ) → first n at ≡ None → x < n → at x ≡ None
first_none at zero x e lt = absurd (omega arith)
first_none at (suc n) x e lt =
    below at n x (both_none (first n at) (at n) (sym (first_step at n) ∙ (ap (λ k. first k at) (num n) ∙ e)))
    (λ less. first_none at n x (both_none (first n at) (at n) (sym (first_step at n) ∙ (ap (λ k. first k at) (num n) ∙ e))).0 less) (cases_lt x n) lt
  where
    num : (n : ℕ) → n + 1 ≡ suc n
    num n = omega arith

    below : {A : Type 0} (at : ℕ → Option A) (n x : ℕ) → (first n at ≡ None) × (at n ≡ None) → (x < n → at x ≡ None) → (x < n) ⊎ (n ≤ x) → x < suc n
        → at x ≡ None
    below at n x parts rest (inl less) lt = rest less
    below at n x parts rest (inr le) lt = ap at (omega arith) ∙ parts.1

pub unless_none : {A : Type 0} (b : Bool) (a : A) → unless b a ≡ None → b ≡ true
unless_none true a e = refl
unless_none false a e = absurd (cc)

pub unless_true : {A : Type 0} (b : Bool) (a : A) → b ≡ true → unless b a ≡ None
unless_true b a e = ap (λ t. unless t a) e

pub unless_false : {A : Type 0} (b : Bool) (a : A) → b ≡ false → unless b a ≡ Some a
unless_false b a e = ap (λ t. unless t a) e

-- where no case below n has a fault, there is none
pub first_all : {A : Type 0} (at : ℕ → Option A) (n : ℕ) → ((x : ℕ) → x < n → at x ≡ None) → first n at ≡ None
first_all at zero each = refl
first_all at (suc n) each =
    ap (λ (k : ℕ). first k at) (num n) ∙ first_more at n (first_all at n (λ x lt. each x (omega arith))) (each n (omega arith))
  where
    num : (n : ℕ) → suc n ≡ n + 1
    num n = omega arith

pub none_else : {A : Type 0} (a b : Option A) → a ≡ None → b ≡ None → or_else a b ≡ None
none_else a b first_is second_is = ap (λ x. or_else x b) first_is ∙ second_is
