-- A list that is given away from its front.
use Rattle.std.proofs.Common.{◌≡◌, ℕ, ◌+◌, List, ◌++◌, take, drop, sym, ◌∙◌, ap}
use Rattle.std.proofs.lemmas.List.{take-append-drop, drop-drop}

-- what is left at a place is the n items that are given next, and what is left behind them
pub front_given : (xs : List ℕ) (at n : ℕ) (front : List ℕ) → front ≡ take n (drop at xs) → drop at xs ≡ front ++ drop (at + n) xs
front_given xs at n front is =
    sym (take-append-drop n (drop at xs)) ∙ ap (λ zs. zs ++ drop n (drop at xs)) (sym is) ∙ ap (λ zs. front ++ zs) (drop-drop n at xs)
