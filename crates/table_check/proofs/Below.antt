-- What holds of each number below another.
use Rattle.std.proofs.Common.{◌≡◌, ◌<◌, ◌≤◌, ◌+◌, inl, inr, ℕ, subst, arith}
use Rattle.std.proofs.lemmas.Bool.{cases_lt}

pub below_more : (P : ℕ → Type 0) (n : ℕ) → ((i : ℕ) → i < n → P i) → P n → (i : ℕ) → i < n + 1 → P i
below_more P n below here i lt = elim (cases_lt i n) [
  | inl less ↦ below i less
  | inr more ↦ let same : n ≡ i = omega (arith, lt, more) in subst P same here
]

pub below_all : (P : ℕ → Type 0) (n most : ℕ) → most ≤ n → ((i : ℕ) → i < n → P i) → (i : ℕ) → i < most → P i
below_all P n most le below i lt = below i (omega (arith, lt, le))

pub below_none : (P : ℕ → Type 0) (i : ℕ) → i < 0 → P i
below_none P i lt = absurd (omega (arith, lt))
