-- The first place that a search for a byte answers is the position of std.
use Rattle.std.proofs.Common.{◌≡◌, ◌<◌, ◌∙◌, ℕ, Bool, true, false, not, nat_lt, List, length, get_or, Option, Some, None, arith, refl, sym, ap, inl, inr}
use Rattle.std.specs.List.{position, position_or_len}
use Rattle.std.proofs.lemmas.Bool.{cases_Bool, cases_order, cond-true, cond-false, false≢true, ltb-true, lt-ltb, not-false}
use Rattle.std.proofs.lemmas.List.Sums.{prefix_len_passes, prefix_len_stops}
use Rattle.memchr.specs.Find.{IsFirstByte}

not_true : (b : Bool) → not b ≡ true → b ≡ true → ⊥
not_true true e t = false≢true e
not_true false e t = false≢true t

module _ (p : ℕ → Bool) (bytes : List ℕ) where
  -- what passes at the position, and nothing before it
  at_position : position_or_len p bytes < length bytes → p (get_or bytes (position_or_len p bytes) 0) ≡ true
  at_position lt = not-false (p (get_or bytes (position_or_len p bytes) 0)) (prefix_len_stops (λ b. not (p b)) bytes 0 lt)

  before_position : (k : ℕ) → k < position_or_len p bytes → p (get_or bytes k 0) ≡ true → ⊥
  before_position k lt = not_true (p (get_or bytes k 0)) (prefix_len_passes (λ b. not (p b)) bytes k 0 lt)

  pub first_place : (r : Option ℕ) → IsFirstByte p bytes r → r ≡ position p bytes
  first_place None nowhere = elim (cases_Bool (nat_lt (position_or_len p bytes) (length bytes))) [
    | inl below ↦
        let lt = ltb-true (position_or_len p bytes) (length bytes) below in
        absurd (nowhere (position_or_len p bytes) (omega arith) lt (at_position lt))
    | inr past ↦ sym (cond-false (nat_lt (position_or_len p bytes) (length bytes)) (Some (position_or_len p bytes)) None past)
  ]
  first_place (Some k) found =
      let here : position_or_len p bytes ≡ k = elim (cases_order (position_or_len p bytes) k) [
        | inl same ↦ same
        | inr other ↦ elim other [
          | inl lt ↦
              absurd (found.0.before (position_or_len p bytes) (omega arith) lt (at_position (omega (arith, lt, found.0.high))))
          | inr gt ↦ absurd (before_position k gt found.1)
        ]
      ] in
      sym (cond-true (nat_lt (position_or_len p bytes) (length bytes)) (Some (position_or_len p bytes)) None
      (lt-ltb (position_or_len p bytes) (length bytes) (omega (arith, here, found.0.high))) ∙ ap (λ (z : ℕ). Some z) here)
