-- A list without one place, as its two halves.
use Rattle.std.proofs.Common.{◌≡◌, ◌++◌, ◌∙◌, ℕ, suc, List, map, take, drop, sym, ap, add-one}
use Rattle.std.specs.List.{remove}
use Rattle.std.proofs.lemmas.List.{map-append, drop-drop}

pub halves : (f : ℕ → ℕ) (xs : List ℕ) (i : ℕ) → map f (take i xs) ++ map f (drop 1 (drop i xs)) ≡ map f (remove xs i)
halves f xs i =
    let right : drop 1 (drop i xs) ≡ drop (suc i) xs = drop-drop 1 i xs ∙ ap (λ (z : ℕ). drop z xs) (add-one i) in
    sym (map-append f (take i xs) (drop (suc i) xs) ∙ ap (λ (ys : List ℕ). map f (take i xs) ++ map f ys) (sym right))
