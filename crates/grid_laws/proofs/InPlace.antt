-- Lists whose elements are changed one by one, in their places.
use Rattle.std.proofs.Common.{◌≡◌, ◌<◌, ◌+◌, ◌-◌, ◌∙◌, ◌++◌, ℕ, List, ap, map, take, drop, length, get_or, arith}
use Rattle.std.proofs.lemmas.List.{length-map, length-take, get_or-append_right, get_or-drop}

-- where the first places are changed, the others are what they were
pub still_there : (f : ℕ → ℕ) (xs ys : List ℕ) (i : ℕ) → i < length xs → ys ≡ map f (take i xs) ++ drop i xs → get_or ys i 0 ≡ get_or xs i 0
still_there f xs ys i lt is =
    ap (λ zs. get_or zs i 0) is
    ∙ get_or-append_right (map f (take i xs)) (drop i xs) i i 0 (omega (arith, length-map (take i xs) f, length-take i xs, lt)) (omega arith)
    ∙ get_or-drop i xs (i - i) 0
    ∙ ap (λ (z : ℕ). get_or xs z 0) (let e : i + (i - i) ≡ i = omega arith in e)
