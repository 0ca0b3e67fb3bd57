-- The law of Mochizuki's formula, for all primes that are orders, by computing; and what it says of each.
use Rattle.std.proofs.Common.{◌≡◌, ◌∙◌, ◌<◌, ◌≤◌, ◌+◌, ◌-◌, ◌*◌, ◌%◌, ◌==◌, ◌&&◌, ◌||◌, ℕ, Bool, true, false, not, refl, sym, ap, arith}
use Rattle.std.specs.List.{list_all, range_with_len}
use Rattle.std.proofs.lemmas.List.FromFn.{get_or-range_with_len, length-range_with_len}
use Rattle.std.proofs.lemmas.List.Sums.{AllPass-from_list_all}
use Rattle.std.proofs.lemmas.Bool.{eqb-true}
use Rattle.quandle_core.specs.declared.quandle.TheConstants.{MAX_ORDER}
use Rattle.cocycle_core.specs.Formula.{is_prime, dividend, quotient}

-- 2y - x mod p
abbrev pub reflected : ℕ → ℕ → ℕ → ℕ
reflected p x y = (2 * y + (p - x)) % p

-- with (y, z) for the quotient: 2 (c, d) + (b, c) + (2d - b, 2d - c) = (2c - b, d) + (b, d) mod p, a cocycle law of its own
abbrev pub balances : ℕ → ℕ → ℕ → ℕ → Bool
balances p b c d =
    (2 * quotient p c d + quotient p b c + quotient p (reflected p b d) (reflected p c d)) % p
    == (quotient p (reflected p b c) d + quotient p b d) % p

abbrev pub all_balance : ℕ → Bool
all_balance p = list_all (λ b. list_all (λ c. list_all (λ d. balances p b c d) (range_with_len 0 p)) (range_with_len 0 p)) (range_with_len 0 p)

abbrev pub all_whole : ℕ → Bool
all_whole p = list_all (λ y. list_all (λ z. dividend p y z % p == 0) (range_with_len 0 p)) (range_with_len 0 p)

abbrev pub all_vanish : ℕ → Bool
all_vanish p = list_all (λ y. quotient p y y == 0) (range_with_len 0 p)

abbrev pub holds_of : ℕ → Bool
holds_of p = not (is_prime p) || (all_balance p && (all_whole p && all_vanish p))

all_hold : list_all holds_of (range_with_len 0 (MAX_ORDER + 1)) ≡ true
all_hold = refl

-- ---- case by case

pub each : (f : ℕ → Bool) (n k : ℕ) → k < n → list_all f (range_with_len 0 n) ≡ true → f k ≡ true
each f n k lt e =
    ap f (let at : k ≡ 0 + k = omega arith in at ∙ sym (get_or-range_with_len 0 n k 0 lt))
    ∙ AllPass-from_list_all f (range_with_len 0 n) e k 0 (omega (arith, lt, length-range_with_len 0 n))

-- what is computed of a prime order
pub record Computes (p : ℕ) : Type 0 where
  pub balance : all_balance p ≡ true
  pub whole : all_whole p ≡ true
  pub vanish : all_vanish p ≡ true

of_prime : (p : ℕ) (prime : Bool) → is_prime p ≡ prime → prime ≡ true → (not prime || (all_balance p && (all_whole p && all_vanish p))) ≡ true → Computes p
of_prime p true is so e = parted (all_balance p) (all_whole p) (all_vanish p) refl refl refl e
  where
    parted : (a b c : Bool) → all_balance p ≡ a → all_whole p ≡ b → all_vanish p ≡ c → (a && (b && c)) ≡ true → Computes p
    parted true true true one two three e = record { balance = one; whole = two; vanish = three }
    parted true true false one two three e = absurd (cc)
    parted true false c one two three e = absurd (cc)
    parted false b c one two three e = absurd (cc)
of_prime p false is so e = absurd (cc)

pub computed : (p : ℕ) → is_prime p ≡ true → p ≤ MAX_ORDER → Computes p
computed p prime most =
    let e : holds_of p ≡ true = each holds_of (MAX_ORDER + 1) p (omega arith) all_hold in
    of_prime p (is_prime p) refl prime e

pub balance_at : (p b c d : ℕ) → Computes p → b < p → c < p → d < p
    → (2 * quotient p c d + quotient p b c + quotient p (reflected p b d) (reflected p c d)) % p ≡ (quotient p (reflected p b c) d + quotient p b d) % p
balance_at p b c d is lb lc ld =
    let rows = each (λ b. list_all (λ c. list_all (λ d. balances p b c d) (range_with_len 0 p)) (range_with_len 0 p)) p b lb is.balance in
    let row = each (λ c. list_all (λ d. balances p b c d) (range_with_len 0 p)) p c lc rows in
    eqb-true _ _ (each (λ d. balances p b c d) p d ld row)

pub whole_at : (p y z : ℕ) → Computes p → y < p → z < p → dividend p y z % p ≡ 0
whole_at p y z is ly lz =
    let row = each (λ y. list_all (λ z. dividend p y z % p == 0) (range_with_len 0 p)) p y ly is.whole in
    eqb-true _ _ (each (λ z. dividend p y z % p == 0) p z lz row)

pub vanish_at : (p y : ℕ) → Computes p → y < p → quotient p y y ≡ 0
vanish_at p y is ly = eqb-true _ _ (each (λ y. quotient p y y == 0) p y ly is.vanish)
