-- The ends of two neighbouring spans, counted from the first end of the first one, round the circle.
use Rattle.std.proofs.Common.{◌≡◌, ◌≢◌, ◌<◌, ◌≤◌, ◌+◌, ◌⊎◌, ℕ, arith, inl, inr}
use Rattle.std.specs.Option.{is_none}
use Rattle.std.proofs.lemmas.Bool.{cases_lt}
use Rattle.std.proofs.lemmas.Bool.Decides.{nat_tests}
use Rattle.grid_core.specs.Span.{span, share_one_end}
use Rattle.grid_moves.specs.MoveFault.{exchange_fault}
use Rattle.grid_moves.specs.Shift.{shifted}
use Rattle.grid_moves.proofs.Shifted.{shifted_low, shifted_high}
use Rattle.grid_canon.specs.ShortTrades.{apart_from, touch_once_from}

-- an end that is counted from another: it lies behind that, or comes round the circle
abbrev IsCounted : ℕ → ℕ → ℕ → ℕ → Type 0
IsCounted n x a u = ((a < x) × (u + x ≡ a + n)) ⊎ ((x ≤ a) × (u + x ≡ a))

counted : (n x a : ℕ) → x < n → a < n → IsCounted n x a (shifted n x a)
counted n x a hx ha = elim (cases_lt a x) [
  | inl low ↦ inl (low, omega (arith, shifted_low n x a low hx, hx))
  | inr high ↦ inr (high, omega (arith, shifted_high n x a high ha, high))
]

apart_at : (n x o a b y u v : ℕ) → x < n → o < n → a < n → b < n → x ≢ o → a ≢ b → x ≢ a → o ≢ b
    → IsCounted n x o y → IsCounted n x a u → IsCounted n x b v
    → apart_from y u v ≡ is_none (exchange_fault (span x o) (span a b))
apart_at n x o a b y u v hx ho ha hb xo ab xa ob cy cu cv = elim cy [
  | inl oy ↦ elim cu [
    | inl au ↦ elim cv [ inl bv ↦ grind (arith, nat_tests) | inr bv ↦ grind (arith, nat_tests) ]
    | inr au ↦ elim cv [ inl bv ↦ grind (arith, nat_tests) | inr bv ↦ grind (arith, nat_tests) ]
  ]
  | inr oy ↦ elim cu [
    | inl au ↦ elim cv [ inl bv ↦ grind (arith, nat_tests) | inr bv ↦ grind (arith, nat_tests) ]
    | inr au ↦ elim cv [ inl bv ↦ grind (arith, nat_tests) | inr bv ↦ grind (arith, nat_tests) ]
  ]
]

touch_at : (n x o a b y u v : ℕ) → x < n → o < n → a < n → b < n → x ≢ o → a ≢ b → x ≢ a → o ≢ b
    → IsCounted n x o y → IsCounted n x a u → IsCounted n x b v
    → touch_once_from y u v ≡ share_one_end (span x o) (span a b)
touch_at n x o a b y u v hx ho ha hb xo ab xa ob cy cu cv = elim cy [
  | inl oy ↦ elim cu [
    | inl au ↦ elim cv [ inl bv ↦ grind (arith, nat_tests) | inr bv ↦ grind (arith, nat_tests) ]
    | inr au ↦ elim cv [ inl bv ↦ grind (arith, nat_tests) | inr bv ↦ grind (arith, nat_tests) ]
  ]
  | inr oy ↦ elim cu [
    | inl au ↦ elim cv [ inl bv ↦ grind (arith, nat_tests) | inr bv ↦ grind (arith, nat_tests) ]
    | inr au ↦ elim cv [ inl bv ↦ grind (arith, nat_tests) | inr bv ↦ grind (arith, nat_tests) ]
  ]
]

module _ (n x o a b : ℕ) (hx : x < n) (ho : o < n) (ha : a < n) (hb : b < n) (xo : x ≢ o) (ab : a ≢ b) (xa : x ≢ a) (ob : o ≢ b) where
  pub apart_counted : apart_from (shifted n x o) (shifted n x a) (shifted n x b) ≡ is_none (exchange_fault (span x o) (span a b))
  apart_counted =
      apart_at n x o a b (shifted n x o) (shifted n x a) (shifted n x b) hx ho ha hb xo ab xa ob (counted n x o hx ho) (counted n x a hx ha)
      (counted n x b hx hb)

  pub touch_counted : touch_once_from (shifted n x o) (shifted n x a) (shifted n x b) ≡ share_one_end (span x o) (span a b)
  touch_counted =
      touch_at n x o a b (shifted n x o) (shifted n x a) (shifted n x b) hx ho ha hb xo ab xa ob (counted n x o hx ho) (counted n x a hx ha)
      (counted n x b hx hb)
