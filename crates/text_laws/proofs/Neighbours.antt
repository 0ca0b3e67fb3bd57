-- What the intervals of two neighbours tell of the rows, or columns, of their four marks.
use Rattle.std.proofs.Common.{◌≡◌, ◌<◌, ◌≤◌, ◌||◌, ◌&&◌, ◌==◌, ◌⊎◌, inl, inr, ℕ, Bool, not, nat_lt, arith, sym}
use Rattle.std.specs.Bool.{Decides}
use Rattle.std.proofs.lemmas.Bool.{cases_lt, cases_order, cond-true, cond-false, lt-ltb, le-ltb}
use Rattle.std.proofs.lemmas.Bool.Decides.{Decides-eqb, Decides-ltb, Decides-or, Decides-and, Decides-not, Decides-like}
use Rattle.grid_core.specs.declared.span.Span.{Span}
use Rattle.grid_core.specs.Span.{span, IsBetween, share_an_end, share_both_ends, are_disjoint, are_nested}
use Rattle.text_laws.specs.MoveFaults.{IsBeyond, HaveOneEnd, HaveBothEnds, Interleave}

-- a test of intervals with their ends in order is one of four numbers in any order
of_spans : (test : Span → Span → Bool) (Are : ℕ → ℕ → ℕ → ℕ → Type 0)
    → ((a b p q : ℕ) → Are a b p q → Are b a p q)
    → ((a b p q : ℕ) → Are a b p q → Are a b q p)
    → ((l h m k : ℕ) → l ≤ h → m ≤ k → Decides (test (record { low = l; high = h }) (record { low = m; high = k })) (Are l h m k))
    → (a b p q : ℕ) → Decides (test (span a b) (span p q)) (Are a b p q)
of_spans test Are first second ordered a b p q = elim (cases_lt a b) [
  | inl low ↦ rw (cond-true (nat_lt a b) (interval a b) (interval b a) (lt-ltb a b low)) (by a b (omega arith) (λ s. s) (λ s. s))
  | inr high ↦ rw (cond-false (nat_lt a b) (interval a b) (interval b a) (le-ltb a b high)) (by b a high (first b a p q) (first a b p q))
]
  where
    interval : ℕ → ℕ → Span
    interval l h = record { low = l; high = h }

    by : (l h : ℕ) → l ≤ h → (Are l h p q → Are a b p q) → (Are a b p q → Are l h p q) → Decides (test (interval l h) (span p q)) (Are a b p q)
    by l h le there back = elim (cases_lt p q) [
      | inl low ↦ rw (cond-true (nat_lt p q) (interval p q) (interval q p) (lt-ltb p q low)) (Decides-like _ there back (ordered l h p q le (omega arith)))
      | inr high ↦ rw (cond-false (nat_lt p q) (interval p q) (interval q p) (le-ltb p q high))
          (Decides-like _ (λ is. there (second l h q p is)) (λ is. second l h p q (back is)) (ordered l h q p le high))
    ]

-- which ends of two intervals are the same
ends_tell : (l h m k : ℕ) → Decides (share_an_end (record { low = l; high = h }) (record { low = m; high = k })) (HaveOneEnd l h m k)
ends_tell l h m k =
    Decides-like ((l == m) || (l == k) || (h == m) || (h == k)) there back
    (Decides-or ((l == m) || (l == k) || (h == m)) (h == k)
    (Decides-or ((l == m) || (l == k)) (h == m) (Decides-or (l == m) (l == k) (Decides-eqb l m) (Decides-eqb l k)) (Decides-eqb h m)) (Decides-eqb h k))
  where
    there : (((l ≡ m) ⊎ (l ≡ k)) ⊎ (h ≡ m)) ⊎ (h ≡ k) → HaveOneEnd l h m k
    there (inl (inl (inl e))) = inl e
    there (inl (inl (inr e))) = inr (inl e)
    there (inl (inr e)) = inr (inr (inl e))
    there (inr e) = inr (inr (inr e))

    back : HaveOneEnd l h m k → (((l ≡ m) ⊎ (l ≡ k)) ⊎ (h ≡ m)) ⊎ (h ≡ k)
    back (inl e) = inl (inl (inl e))
    back (inr (inl e)) = inl (inl (inr e))
    back (inr (inr (inl e))) = inl (inr e)
    back (inr (inr (inr e))) = inr e

pub shares_one : (a b p q : ℕ) → Decides (share_an_end (span a b) (span p q)) (HaveOneEnd a b p q)
shares_one = of_spans share_an_end HaveOneEnd first second ordered
  where
    first : (a b p q : ℕ) → HaveOneEnd a b p q → HaveOneEnd b a p q
    first a b p q (inl e) = inr (inr (inl e))
    first a b p q (inr (inl e)) = inr (inr (inr e))
    first a b p q (inr (inr (inl e))) = inl e
    first a b p q (inr (inr (inr e))) = inr (inl e)

    second : (a b p q : ℕ) → HaveOneEnd a b p q → HaveOneEnd a b q p
    second a b p q (inl e) = inr (inl e)
    second a b p q (inr (inl e)) = inl e
    second a b p q (inr (inr (inl e))) = inr (inr (inr e))
    second a b p q (inr (inr (inr e))) = inr (inr (inl e))

    ordered : (l h m k : ℕ) → l ≤ h → m ≤ k → Decides (share_an_end (record { low = l; high = h }) (record { low = m; high = k })) (HaveOneEnd l h m k)
    ordered l h m k le by_k = ends_tell l h m k

pub shares_both : (a b p q : ℕ) → Decides (share_both_ends (span a b) (span p q)) (HaveBothEnds a b p q)
shares_both = of_spans share_both_ends HaveBothEnds first second ordered
  where
    first : (a b p q : ℕ) → HaveBothEnds a b p q → HaveBothEnds b a p q
    first a b p q (inl e) = inr (e.1, e.0)
    first a b p q (inr e) = inl (e.1, e.0)

    second : (a b p q : ℕ) → HaveBothEnds a b p q → HaveBothEnds a b q p
    second a b p q (inl e) = inr e
    second a b p q (inr e) = inl e

    both : (l h m k : ℕ) → l ≤ h → m ≤ k → HaveBothEnds l h m k → (l ≡ m) × (h ≡ k)
    both l h m k le by_k (inl e) = e
    both l h m k le by_k (inr e) = (omega (arith, e, le, by_k), omega (arith, e, le, by_k))

    ordered : (l h m k : ℕ) → l ≤ h → m ≤ k → Decides (share_both_ends (record { low = l; high = h }) (record { low = m; high = k })) (HaveBothEnds l h m k)
    ordered l h m k le by_k =
        Decides-like ((l == m) && (h == k)) (λ e. inl e) (both l h m k le by_k) (Decides-and (l == m) (h == k) (Decides-eqb l m) (Decides-eqb h k))

-- two intervals that share no end, and lie neither side by side nor one in the other
abbrev pub interleaves : Span → Span → Bool
interleaves s t = not (share_an_end s t) && not (are_disjoint s t || are_nested s t)

-- one of them begins, then the other, then the first ends, then the other
abbrev Chain : ℕ → ℕ → ℕ → ℕ → Type 0
Chain l h m k = ((l < m) × ((m < h) × (h < k))) ⊎ ((m < l) × ((l < k) × (k < h)))

-- the test of intervals in order, told
abbrev Apart : ℕ → ℕ → ℕ → ℕ → Type 0
Apart l h m k = (HaveOneEnd l h m k → ⊥) × ((((h < m) ⊎ (k < l)) ⊎ (((l < m) × (k < h)) ⊎ ((m < l) × (h < k)))) → ⊥)

not_below : (a b : ℕ) → (a < b → ⊥) → b ≤ a
not_below a b none = elim (cases_lt a b) [
  | inl lt ↦ absurd (none lt)
  | inr le ↦ le
]

from_apart : (l h m k : ℕ) → l ≤ h → m ≤ k → Apart l h m k → Interleave l h m k
from_apart l h m k le by_k apart = elim (cases_order l m) [
  | inl e ↦ absurd (apart.0 (inl e))
  | inr other ↦ elim other [
    | inl low ↦ inl ((inl (low, inside low), inr (omega (arith, le, low, beyond low, by_k), beyond low)))
    | inr high ↦ inr ((inl (reaches high, within high), inl (high, omega (arith, high, le))))
  ]
]
  where
    strictly : (a b : ℕ) → b ≤ a → (a ≡ b → ⊥) → b < a
    strictly a b le ne = elim (cases_order b a) [
      | inl e ↦ absurd (ne (sym e))
      | inr other ↦ elim other [
        | inl lt ↦ lt
        | inr gt ↦ absurd (omega (arith, le, gt))
      ]
    ]

    -- h is above m, and k above h
    inside : l < m → m < h
    inside low = strictly h m (not_below h m (λ lt. apart.1 (inl (inl lt)))) (λ e. apart.0 (inr (inr (inl e))))

    beyond : l < m → h < k
    beyond low = strictly k h (not_below k h (λ lt. apart.1 (inr (inl (low, lt))))) (λ e. apart.0 (inr (inr (inr (sym e)))))

    reaches : m < l → l < k
    reaches high = strictly k l (not_below k l (λ lt. apart.1 (inl (inr lt)))) (λ e. apart.0 (inr (inl (sym e))))

    within : m < l → k < h
    within high = strictly h k (not_below h k (λ lt. apart.1 (inr (inr (high, lt))))) (λ e. apart.0 (inr (inr (inr e))))

to_chain : (l h m k : ℕ) → l ≤ h → m ≤ k → Interleave l h m k → Chain l h m k
to_chain l h m k le by_k (inl both) = by both.0 both.1
  where
    by : IsBetween l h m → IsBeyond l h k → Chain l h m k
    by (inl at) (inl low) = absurd (omega (arith, at.0, low.0, by_k))
    by (inl at) (inr high) = inl (at.0, (at.1, high.1))
    by (inr at) beyond = absurd (omega (arith, at.0, at.1, le))
to_chain l h m k le by_k (inr both) = by both.0 both.1
  where
    by : IsBetween l h k → IsBeyond l h m → Chain l h m k
    by (inl at) (inl low) = inr (low.0, (at.0, at.1))
    by (inl at) (inr high) = absurd (omega (arith, at.1, high.1, by_k))
    by (inr at) beyond = absurd (omega (arith, at.0, at.1, le))

to_apart : (l h m k : ℕ) → Chain l h m k → Apart l h m k
to_apart l h m k (inl low) = (no_end, no_place)
  where
    no_end : HaveOneEnd l h m k → ⊥
    no_end (inl e) = absurd (omega (arith, e, low.0))
    no_end (inr (inl e)) = absurd (omega (arith, e, low.0, low.1.0, low.1.1))
    no_end (inr (inr (inl e))) = absurd (omega (arith, e, low.1.0))
    no_end (inr (inr (inr e))) = absurd (omega (arith, e, low.1.1))

    no_place : ((h < m) ⊎ (k < l)) ⊎ (((l < m) × (k < h)) ⊎ ((m < l) × (h < k))) → ⊥
    no_place (inl (inl lt)) = absurd (omega (arith, lt, low.1.0))
    no_place (inl (inr lt)) = absurd (omega (arith, lt, low.0, low.1.0, low.1.1))
    no_place (inr (inl both)) = absurd (omega (arith, both.1, low.1.1))
    no_place (inr (inr both)) = absurd (omega (arith, both.0, low.0))
to_apart l h m k (inr high) = (no_end, no_place)
  where
    no_end : HaveOneEnd l h m k → ⊥
    no_end (inl e) = absurd (omega (arith, e, high.0))
    no_end (inr (inl e)) = absurd (omega (arith, e, high.1.0))
    no_end (inr (inr (inl e))) = absurd (omega (arith, e, high.0, high.1.0, high.1.1))
    no_end (inr (inr (inr e))) = absurd (omega (arith, e, high.1.1))

    no_place : ((h < m) ⊎ (k < l)) ⊎ (((l < m) × (k < h)) ⊎ ((m < l) × (h < k))) → ⊥
    no_place (inl (inl lt)) = absurd (omega (arith, lt, high.0, high.1.0, high.1.1))
    no_place (inl (inr lt)) = absurd (omega (arith, lt, high.1.0))
    no_place (inr (inl both)) = absurd (omega (arith, both.0, high.0))
    no_place (inr (inr both)) = absurd (omega (arith, both.1, high.1.1))

pub interleaves_tells : (a b p q : ℕ) → Decides (interleaves (span a b) (span p q)) (Interleave a b p q)
interleaves_tells = of_spans interleaves Interleave first second ordered
  where
    turned : (a b r : ℕ) → IsBetween a b r → IsBetween b a r
    turned a b r (inl at) = inr at
    turned a b r (inr at) = inl at

    beyond : (a b r : ℕ) → IsBeyond a b r → IsBeyond b a r
    beyond a b r (inl at) = inl (at.1, at.0)
    beyond a b r (inr at) = inr (at.1, at.0)

    first : (a b p q : ℕ) → Interleave a b p q → Interleave b a p q
    first a b p q (inl both) = inl (turned a b p both.0, beyond a b q both.1)
    first a b p q (inr both) = inr (turned a b q both.0, beyond a b p both.1)

    second : (a b p q : ℕ) → Interleave a b p q → Interleave a b q p
    second a b p q (inl both) = inr both
    second a b p q (inr both) = inl both

    placed : (l h m k : ℕ)
        → Decides (are_disjoint (record { low = l; high = h }) (record { low = m; high = k })
        || are_nested (record { low = l; high = h }) (record { low = m; high = k }))
        (((h < m) ⊎ (k < l)) ⊎ (((l < m) × (k < h)) ⊎ ((m < l) × (h < k))))
    placed l h m k =
        Decides-or (nat_lt h m || nat_lt k l) ((nat_lt l m && nat_lt k h) || (nat_lt m l && nat_lt h k))
        (Decides-or (nat_lt h m) (nat_lt k l) (Decides-ltb h m) (Decides-ltb k l))
        (Decides-or (nat_lt l m && nat_lt k h) (nat_lt m l && nat_lt h k)
        (Decides-and (nat_lt l m) (nat_lt k h) (Decides-ltb l m) (Decides-ltb k h))
        (Decides-and (nat_lt m l) (nat_lt h k) (Decides-ltb m l) (Decides-ltb h k)))

    ordered : (l h m k : ℕ) → l ≤ h → m ≤ k → Decides (interleaves (record { low = l; high = h }) (record { low = m; high = k })) (Interleave l h m k)
    ordered l h m k le by_k =
        Decides-like _ (from_apart l h m k le by_k) (λ is. to_apart l h m k (to_chain l h m k le by_k is))
        (Decides-and _ _ (Decides-not _ (ends_tell l h m k)) (Decides-not _ (placed l h m k)))
