-- As many different ids as stand in a list are below the capacity.
use Rattle.std.proofs.Common.{◌≡◌, ◌≢◌, ◌∙◌, sym, ℕ, suc, ◌<◌, ◌≤◌, List, [], ◌∷◌, length, get_or, true, false, eqb, Any, arith, inl, inr}
use Rattle.std.specs.List.{IsDistinct, AllByRecursion}
use Rattle.std.proofs.lemmas.Bool.{eqb-true}
use Rattle.std.proofs.lemmas.Bool.Decides.{eqb_tells}
use Rattle.std.proofs.lemmas.List.Folds.{Any-from_list_any}
use Rattle.std.proofs.lemmas.Map.Steps.{length-le_from_distinct_below}
use Rattle.std.proofs.lemmas.Grind.{get_or_default_zero}

differs : (a b : ℕ) → a ≢ b → eqb a b ≡ false
differs a b other = elim (eqb_tells a b) [ inl same ↦ absurd (other same.1) | inr tells ↦ tells.0 ]

apart : (x : ℕ) (xs : List ℕ) → ((k : ℕ) → k < length xs → x ≢ get_or xs k 0) → AllByRecursion (λ y. eqb x y ≡ false) xs
apart x [] other = tt
apart x (y ∷ xs) other = (differs x y (other 0 (omega arith)), apart x xs (λ k lt. other (suc k) (omega arith)))

distinct : (xs : List ℕ) → ((i j : ℕ) → i < length xs → j < length xs → get_or xs i 0 ≡ get_or xs j 0 → i ≡ j) → IsDistinct eqb xs
unfolding IsDistinct
distinct [] once = tt
distinct (x ∷ xs) once = (
  apart x xs (λ k lt same. absurd (omega (arith, once 0 (suc k) (omega arith) (omega arith) same))),
  distinct xs (λ i j p q same. omega (arith, once (suc i) (suc j) (omega arith) (omega arith) same)),
)

-- no number twice, and each below n
pub length-le : (xs : List ℕ) (n : ℕ) → ((i j : ℕ) → i < length xs → j < length xs → get_or xs i 0 ≡ get_or xs j 0 → i ≡ j)
    → ((i : ℕ) → i < length xs → get_or xs i 0 < n) → length xs ≤ n
length-le xs n once below = length-le_from_distinct_below xs n (distinct xs once) (λ q found. of_any q (Any-from_list_any (eqb q) xs found))
  where
    of_any : (q : ℕ) → Any (λ x. eqb q x ≡ true) xs → q < n
    of_any q any =
        let same : q ≡ any.1 = eqb-true q any.1 any.4 in
        let read : get_or xs any.0 0 ≡ any.1 = sym (get_or_default_zero xs any.0 any.1 any.2) ∙ any.3 in
        omega (arith, same, read, below any.0 any.2)
