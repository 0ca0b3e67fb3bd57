-- Four numbers on a circle: two pairs that do not separate each other do not after a shift either, and two pairs that share one number share one.
use Rattle.std.proofs.Common.{◌≡◌, ◌<◌, ◌≤◌, ◌+◌, ◌-◌, ◌||◌, ◌⊎◌, ◌∙◌, ℕ, Bool, true, false, cond, arith, sym, refl, ap, ap₂, inl, inr}
use Rattle.std.proofs.lemmas.Bool.{cases_order, lt-ltb, le-ltb}
use Rattle.std.proofs.lemmas.Bool.Decides.{nat_tests}
use Rattle.grid_core.specs.declared.span.Span.{Span}
use Rattle.grid_core.specs.Span.{span, share_an_end, are_disjoint, are_nested, share_both_ends}
use Rattle.grid_moves.specs.Shift.{shifted}
use Rattle.grid_moves.specs.Exchange.{MayExchange}
use Rattle.grid_moves.specs.Slide.{MaySlide}
use Rattle.grid_keys.proofs.Translated.{shifted_cases, shifted-permutes}

abbrev is_clear : ℕ → ℕ → ℕ → ℕ → Bool
is_clear p q s t = are_disjoint (span p q) (span s t) || are_nested (span p q) (span s t)

-- where two of the four stand, the others in any place
ends_low_low : (n k p q s t T : ℕ) → k < n → p < k → q < k → s < k → t < n → ((t < k) × (T ≡ t + (n - k))) ⊎ ((k ≤ t) × (T ≡ t - k))
    → share_an_end (span p q) (span s t) ≡ false → is_clear p q s t ≡ true → is_clear (p + (n - k)) (q + (n - k)) (s + (n - k)) T ≡ true
ends_low_low n k p q s t T hk hp hq hs ht ct d e = grind (arith, nat_tests)

ends_low_high : (n k p q s t T : ℕ) → k < n → p < k → q < k → k ≤ s → s < n → t < n → ((t < k) × (T ≡ t + (n - k))) ⊎ ((k ≤ t) × (T ≡ t - k))
    → share_an_end (span p q) (span s t) ≡ false → is_clear p q s t ≡ true → is_clear (p + (n - k)) (q + (n - k)) (s - k) T ≡ true
ends_low_high n k p q s t T hk hp hq hs ls ht ct d e = grind (arith, nat_tests)

ends_high_low : (n k p q s t T : ℕ) → k < n → k ≤ p → k ≤ q → p < n → q < n → s < k → t < n → ((t < k) × (T ≡ t + (n - k))) ⊎ ((k ≤ t) × (T ≡ t - k))
    → share_an_end (span p q) (span s t) ≡ false → is_clear p q s t ≡ true → is_clear (p - k) (q - k) (s + (n - k)) T ≡ true
ends_high_low n k p q s t T hk hp hq lp lq hs ht ct d e = grind (arith, nat_tests)

ends_high_high : (n k p q s t T : ℕ) → k < n → k ≤ p → k ≤ q → p < n → q < n → k ≤ s → s < n → t < n
    → ((t < k) × (T ≡ t + (n - k))) ⊎ ((k ≤ t) × (T ≡ t - k)) → share_an_end (span p q) (span s t) ≡ false → is_clear p q s t ≡ true
    → is_clear (p - k) (q - k) (s - k) T ≡ true
ends_high_high n k p q s t T hk hp hq lp lq hs ls ht ct d e = grind (arith, nat_tests)

ends_apart : (n k p q s t S T : ℕ) → k < n → p < k → k ≤ q → q < n → s < n → t < n → ((s < k) × (S ≡ s + (n - k))) ⊎ ((k ≤ s) × (S ≡ s - k))
    → ((t < k) × (T ≡ t + (n - k))) ⊎ ((k ≤ t) × (T ≡ t - k)) → share_an_end (span p q) (span s t) ≡ false → is_clear p q s t ≡ true
    → is_clear (p + (n - k)) (q - k) S T ≡ true
ends_apart n k p q s t S T hk hp hq lq hs ht cs ct d e = grind (arith, nat_tests)

abbrev made : ℕ → ℕ → Span
made a b = record { low = a; high = b }

span_translated : (a b : ℕ) → span a b ≡ span b a
span_translated a b = elim (cases_order a b) [
  | inl e ↦ ap₂ (λ (z w : ℕ). span z w) e (sym e)
  | inr other ↦ elim other [
    | inl lt ↦ ap (λ t. cond t (made a b) (made b a)) (lt-ltb a b lt) ∙ sym (ap (λ t. cond t (made b a) (made a b)) (le-ltb b a (omega (arith, lt))))
    | inr gt ↦ ap (λ t. cond t (made a b) (made b a)) (le-ltb a b (omega (arith, gt))) ∙ sym (ap (λ t. cond t (made b a) (made a b)) (lt-ltb b a gt))
  ]
]

share_shifted : (p q s t P Q S T : ℕ) → share_an_end (span p q) (span s t) ≡ false → (P ≡ S → p ≡ s) → (P ≡ T → p ≡ t) → (Q ≡ S → q ≡ s) → (Q ≡ T → q ≡ t)
    → share_an_end (span P Q) (span S T) ≡ false
share_shifted p q s t P Q S T d ps pt qs qt = grind (arith, nat_tests)

renamed : (P Q S T p q s : ℕ) → P ≡ p → Q ≡ q → S ≡ s → is_clear p q s T ≡ true → is_clear P Q S T ≡ true
renamed P Q S T p q s ep eq es e = ap₂ (λ (z w : ℕ). is_clear z w S T) ep eq ∙ ap (λ (z : ℕ). is_clear p q z T) es ∙ e

-- with the two ends of the first pair in the other order
translated_first : (p q s t : ℕ) → is_clear p q s t ≡ is_clear q p s t
translated_first p q s t = ap (λ z. are_disjoint z (span s t) || are_nested z (span s t)) (span_translated p q)

clear_shifted : (n k p q s t : ℕ) → k < n → p < n → q < n → s < n → t < n → share_an_end (span p q) (span s t) ≡ false → is_clear p q s t ≡ true
    → is_clear (shifted n k p) (shifted n k q) (shifted n k s) (shifted n k t) ≡ true
clear_shifted n k p q s t hk hp hq hs ht d e =
    let cs = shifted_cases n k s hk hs in
    let ct = shifted_cases n k t hk ht in
    elim (shifted_cases n k p hk hp) [
      | inl lp ↦ elim (shifted_cases n k q hk hq) [
        | inl lq ↦ elim cs [
          | inl ls ↦ renamed _ _ _ _ _ _ _ lp.1 lq.1 ls.1 (ends_low_low n k p q s t (shifted n k t) hk lp.0 lq.0 ls.0 ht ct d e)
          | inr gs ↦ renamed _ _ _ _ _ _ _ lp.1 lq.1 gs.1 (ends_low_high n k p q s t (shifted n k t) hk lp.0 lq.0 gs.0 hs ht ct d e)
        ]
        | inr gq ↦
            renamed _ _ (shifted n k s) (shifted n k t) _ _ (shifted n k s) lp.1 gq.1 refl
            (ends_apart n k p q s t (shifted n k s) (shifted n k t) hk lp.0 gq.0 hq hs ht cs ct d e)
      ]
      | inr gp ↦ elim (shifted_cases n k q hk hq) [
        | inl lq ↦
            translated_first (shifted n k p) (shifted n k q) (shifted n k s) (shifted n k t)
            ∙ renamed _ _ (shifted n k s) (shifted n k t) _ _ (shifted n k s) lq.1 gp.1 refl
            (ends_apart n k q p s t (shifted n k s) (shifted n k t) hk lq.0 gp.0 hp hs ht cs ct
            (ap (λ z. share_an_end z (span s t)) (span_translated q p) ∙ d) (translated_first q p s t ∙ e))
        | inr gq ↦ elim cs [
          | inl ls ↦ renamed _ _ _ _ _ _ _ gp.1 gq.1 ls.1 (ends_high_low n k p q s t (shifted n k t) hk gp.0 gq.0 hp hq ls.0 ht ct d e)
          | inr gs ↦ renamed _ _ _ _ _ _ _ gp.1 gq.1 gs.1 (ends_high_high n k p q s t (shifted n k t) hk gp.0 gq.0 hp hq gs.0 hs ht ct d e)
        ]
      ]
    ]

-- two pairs of four different numbers that are disjoint or nested stay so, round the circle
pub may_exchange_shifted : (n k p q s t : ℕ) → k < n → p < n → q < n → s < n → t < n → MayExchange (span p q) (span s t)
    → MayExchange (span (shifted n k p) (shifted n k q)) (span (shifted n k s) (shifted n k t))
may_exchange_shifted n k p q s t hk hp hq hs ht free =
    let one = (shifted-permutes n k hk).same in
    record {
      different =
          share_shifted p q s t (shifted n k p) (shifted n k q) (shifted n k s) (shifted n k t) free.different (one p s hp hs) (one p t hp ht)
          (one q s hq hs) (one q t hq ht);
      placed = clear_shifted n k p q s t hk hp hq hs ht free.different free.placed;
    }

-- two pairs that share one number and not the other
share_kept : (p q s t P Q S T : ℕ) → share_an_end (span p q) (span s t) ≡ true → (p ≡ s → P ≡ S) → (p ≡ t → P ≡ T) → (q ≡ s → Q ≡ S) → (q ≡ t → Q ≡ T)
    → share_an_end (span P Q) (span S T) ≡ true
share_kept p q s t P Q S T d ps pt qs qt = grind (arith, nat_tests)

both_kept : (p q s t P Q S T : ℕ) → share_both_ends (span p q) (span s t) ≡ false → (P ≡ S → p ≡ s) → (P ≡ T → p ≡ t) → (Q ≡ S → q ≡ s) → (Q ≡ T → q ≡ t)
    → share_both_ends (span P Q) (span S T) ≡ false
both_kept p q s t P Q S T d ps pt qs qt = grind (arith, nat_tests)

pub may_slide_shifted : (n k p q s t : ℕ) → k < n → p < n → q < n → s < n → t < n → MaySlide (span p q) (span s t)
    → MaySlide (span (shifted n k p) (shifted n k q)) (span (shifted n k s) (shifted n k t))
may_slide_shifted n k p q s t hk hp hq hs ht free =
    let one = (shifted-permutes n k hk).same in
    let to : (a b : ℕ) → a ≡ b → shifted n k a ≡ shifted n k b = λ a b e. ap (λ (z : ℕ). shifted n k z) e in
    record {
      shared = share_kept p q s t (shifted n k p) (shifted n k q) (shifted n k s) (shifted n k t) free.shared (to p s) (to p t) (to q s) (to q t);
      not_both =
          both_kept p q s t (shifted n k p) (shifted n k q) (shifted n k s) (shifted n k t) free.not_both (one p s hp hs) (one p t hp ht) (one q s hq hs)
          (one q t hq ht);
    }
