-- A power over a limit is over it at a capped exponent.
use Rattle.std.proofs.Common.{◌≡◌, ◌<◌, ◌≤◌, ◌^◌, ◌-◌, ◌∙◌, inl, inr, ℕ, zero, suc, Bool, true, false, min, refl, sym, ap, subst, arith, add-one}
use Rattle.std.specs.Prelude.{nat_le}
use Rattle.std.proofs.Math.Nat.{pow-le-pow_left, pow-le-pow_right, pow-zero}
use Rattle.std.proofs.lemmas.Grind.{pow_more}
use Rattle.std.proofs.lemmas.Bool.{cases_lt, leb-true, leb-false, le-leb, lt-leb}

same_le : (a b m : ℕ) → (a ≤ m → b ≤ m) → (b ≤ m → a ≤ m) → (t : Bool) → nat_le a m ≡ t → nat_le a m ≡ nat_le b m
same_le a b m to from true e = e ∙ sym (le-leb b m (to (leb-true a m e)))
same_le a b m to from false e =
    let over = leb-false a m e in
    e ∙ sym (lt-leb b m (elim (cases_lt m b) [
      | inl lt ↦ lt
      | inr le ↦ let back = from le in absurd (omega arith)
    ]))

one_power : (k : ℕ) → 1 ^ k ≡ 1
one_power zero = pow-zero 1
one_power (suc k) = ap (λ (n : ℕ). 1 ^ n) (sym (add-one k)) ∙ (pow_more 1 k ∙ (let e = one_power k in omega arith))

-- the power at the capped exponent is under the limit exactly where the power is
power_up : (q k m : ℕ) → 1 ≤ q → 1 ≤ m → m < 2 ^ 64 → q ^ 64 ≤ m → q ^ k ≤ m
power_up q k m some least most le = elim (cases_lt 1 q) [
  | inl two ↦ let h : 2 ^ 64 ≤ q ^ 64 = pow-le-pow_left {n = 2} {m = q} (omega arith) 64 in absurd (omega arith)
  | inr one ↦ subst (λ (q : ℕ). q ^ k ≤ m) (omega arith) (subst (λ (n : ℕ). n ≤ m) (sym (one_power k)) least)
]

pub capped : (q k r m : ℕ) → 1 ≤ q → 1 ≤ m → m < 2 ^ 32 - 1 → r ≡ min (q ^ min k 64) (2 ^ 32 - 1) → nat_le r m ≡ nat_le (q ^ k) m
capped q k r m some least most is = elim (cases_lt k 65) [
  | inl few ↦
      let e : q ^ min k 64 ≡ q ^ k = ap (λ (n : ℕ). q ^ n) (omega arith) in
      same_le r (q ^ k) m (λ h. omega (arith, is, e)) (λ h. omega (arith, is, e)) (nat_le r m) refl
  | inr many ↦
      let e : q ^ min k 64 ≡ q ^ 64 = ap (λ (n : ℕ). q ^ n) (omega arith) in
      same_le r (q ^ k) m
      (λ h. power_up q k m some least (omega (arith, most)) (omega (arith, is, e, most)))
      (λ h. let up : q ^ 64 ≤ q ^ k = pow-le-pow_right {n = q} some {i = 64} {j = k} (omega arith) in omega (arith, is, e))
      (nat_le r m) refl
]
