-- A test of the numbers below n, case by case.
use Rattle.grid_core.proofs.OneEach.{range_more}
use Rattle.std.proofs.Common.{◌+◌, ◌++◌, ◌∷◌, [], add-one, ◌≤◌, zero, suc, cond, refl, ◌≡◌, ◌<◌, ◌∙◌, ℕ, List, Bool, true, false, ap, ap₂, arith}
use Rattle.std.specs.List.{range_with_len, list_all, filter}
use Rattle.std.proofs.lemmas.List.Folds.{list_all_at}
use Rattle.std.proofs.lemmas.List.FromFn.{get_or-range_with_len, length-range_with_len}
use Rattle.std.proofs.lemmas.List.Sums.{list_all-from_AllPass}

pub all_range : (p : ℕ → Bool) (n : ℕ) → ((k : ℕ) → k < n → p k ≡ true) → list_all p (range_with_len 0 n) ≡ true
all_range p n each =
    list_all-from_AllPass p (range_with_len 0 n)
    (λ k d at. let lt : k < n = omega (arith, at, length-range_with_len 0 n) in ap p (get_or-range_with_len 0 n k d lt ∙ omega arith) ∙ each k lt)

pub fails_range : (p : ℕ → Bool) (n k : ℕ) → k < n → p k ≡ false → list_all p (range_with_len 0 n) ≡ false
fails_range p n k lt e =
    list_all_at p (range_with_len 0 n) k 0 (omega (arith, length-range_with_len 0 n)) (ap p (get_or-range_with_len 0 n k 0 lt ∙ omega arith) ∙ e)

-- one number more
pub range_longer : (a n : ℕ) → range_with_len a (n + 1) ≡ range_with_len a n ++ (a + n) ∷ []
range_longer a n = ap (range_with_len a) (add-one n) ∙ range_more n a

-- a filter of neighbouring numbers none of which passes
pub filter_none : (p : ℕ → Bool) (a n : ℕ) → ((k : ℕ) → a ≤ k → k < a + n → p k ≡ false) → filter p (range_with_len a n) ≡ []
filter_none p a zero fails = refl
filter_none p a (suc n) fails =
    ap (λ b. cond b (a ∷ filter p (range_with_len (a + 1) n)) (filter p (range_with_len (a + 1) n))) (fails a (omega arith) (omega arith))
    ∙ filter_none p (a + 1) n (λ k from to. fails k (omega arith) (omega arith))

pub range_append : (a p q : ℕ) → range_with_len a p ++ range_with_len (a + p) q ≡ range_with_len a (p + q)
range_append a zero q = ap₂ (λ (b n : ℕ). range_with_len b n) (omega arith) (omega arith)
range_append a (suc p) q =
    ap (λ (zs : List ℕ). a ∷ zs) (ap (λ (b : ℕ). range_with_len (a + 1) p ++ range_with_len b q) (omega arith) ∙ range_append (a + 1) p q)
    ∙ ap (range_with_len a) (let e : suc (p + q) ≡ suc p + q = omega arith in e)
