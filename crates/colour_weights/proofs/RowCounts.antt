-- Totals over rows, and numbers mod k.
use Rattle.std.proofs.Common.{◌≡◌, ◌∙◌, ◌<◌, ◌≤◌, ◌+◌, ◌-◌, ◌*◌, ◌%◌, ◌/◌, ℕ, zero, suc, ap, ap₂, sym, refl, arith}
use Rattle.std.specs.List.{range_with_len, sum_by}
use Rattle.std.proofs.lemmas.Nat.{mod-mul-add}
use Rattle.std.proofs.lemmas.List.Sums.{sum_by-cons}
use Rattle.cocycle_core.proofs.Mod.{Same, same_of, same_plus, same_by_two, same_by_three, same_turned}

-- the sum over all numbers below n
abbrev pub total : (ℕ → ℕ) → ℕ → ℕ
total f zero = 0
total f (suc n) = total f n + f n

pub total_same : (k : ℕ) (f g : ℕ → ℕ) (n : ℕ) → ((r : ℕ) → r < n → Same k (f r) (g r)) → Same k (total f n) (total g n)
total_same k f g zero each = same_of k 0 0 refl
total_same k f g (suc n) each = same_plus k (total f n) (total g n) (f n) (g n) (total_same k f g n (λ r lt. each r (omega arith))) (each n (omega arith))

pub total_plus : (f g : ℕ → ℕ) (n : ℕ) → total (λ r. f r + g r) n ≡ total f n + total g n
total_plus f g zero = refl
total_plus f g (suc n) = omega (arith, total_plus f g n)

pub total_equal : (f g : ℕ → ℕ) (n : ℕ) → ((r : ℕ) → r < n → f r ≡ g r) → total f n ≡ total g n
total_equal f g zero each = refl
total_equal f g (suc n) each = ap₂ (λ a b. a + b) (total_equal f g n (λ r lt. each r (omega arith))) (each n (omega arith))

-- the lowest first
pub total_first : (f : ℕ → ℕ) (n : ℕ) → total f (suc n) ≡ f 0 + total (λ r. f (suc r)) n
total_first f zero = omega arith
total_first f (suc n) = omega (arith, total_first f n)

-- a remainder is the same
pub same_mod : (k a : ℕ) → 0 < k → Same k (a % k) a
same_mod k a some = record { left = a / k; right = 0; equal = omega (arith, some) }

pub same_from_mod : (k a b : ℕ) → 0 < k → a % k ≡ b % k → Same k a b
same_from_mod k a b some e = record { left = b / k; right = a / k; equal = omega (arith, some, e) }

-- what is taken away and added again
pub same_minus : (k a : ℕ) → 0 < k → a ≤ k → Same k ((k - a) % k + a) 0
same_minus k a some le =
    same_by_two k ((k - a) % k) (k - a) k 0 ((k - a) % k + a) 0 (same_mod k (k - a) some) (record { left = 0; right = 1; equal = omega arith })
    (omega (arith, le))

sum_total_from : (f : ℕ → ℕ) (a n : ℕ) → sum_by f (range_with_len a n) ≡ total (λ r. f (a + r)) n
sum_total_from f a zero = refl
sum_total_from f a (suc n) =
    sum_by-cons f a (range_with_len (a + 1) n)
    ∙ ap₂ (λ m s. m + s) (ap f (let e : a ≡ a + 0 = omega arith in e)) (sum_total_from f (a + 1) n ∙ total_as (λ r. f (a + 1 + r)) (λ r. f (a + suc r)) n
    (λ r. ap f (let e : a + 1 + r ≡ a + suc r = omega arith in e)))
    ∙ sym (total_first (λ r. f (a + r)) n)
  where
    total_as : (g h : ℕ → ℕ) (n : ℕ) → ((r : ℕ) → g r ≡ h r) → total g n ≡ total h n
    total_as g h zero same = refl
    total_as g h (suc n) same = ap₂ (λ s t. s + t) (total_as g h n same) (same n)

pub sum_total : (f : ℕ → ℕ) (n : ℕ) → sum_by f (range_with_len 0 n) ≡ total f n
sum_total f n = sum_total_from f 0 n ∙ plain f n
  where
    plain : (f : ℕ → ℕ) (n : ℕ) → total (λ r. f (0 + r)) n ≡ total f n
    plain f zero = refl
    plain f (suc n) = ap₂ (λ s t. s + t) (plain f n) (ap f (let e : 0 + n ≡ n = omega arith in e))

-- numbers below k that are the same are equal
pub equal_below : (k a b : ℕ) → Same k a b → a < k → b < k → a ≡ b
equal_below k a b same la lb = sym (below k a same.left la) ∙ ap (λ m. m % k) same.equal ∙ below k b same.right lb
  where
    below : (k a m : ℕ) → a < k → (a + k * m) % k ≡ a
    below k a m lt = ap (λ n. n % k) (let e : a + k * m ≡ m * k + a = omega arith in e) ∙ mod-mul-add m k a lt

pub mod_below : (k a : ℕ) → 0 < k → a % k < k
mod_below k a some = omega (arith, some)

-- a sum mod k, with one more term
pub add_mod : (k a b : ℕ) → 0 < k → (a % k + b) % k ≡ (a + b) % k
add_mod k a b some =
    equal_below k ((a % k + b) % k) ((a + b) % k)
    (same_by_three k ((a % k + b) % k) (a % k + b) (a % k) a (a + b) ((a + b) % k) ((a % k + b) % k) ((a + b) % k)
    (same_mod k (a % k + b) some) (same_mod k a some) (same_turned k ((a + b) % k) (a + b) (same_mod k (a + b) some)) (omega arith))
    (mod_below k (a % k + b) some) (mod_below k (a + b) some)
