-- The list of all tuples, by their first colours.
use Rattle.std.proofs.Common.{◌≡◌, ◌+◌, ◌-◌, ◌++◌, ◌∷◌, ◌∙◌, [], ℕ, suc, List, Bool, length, map, filter, take, arith, sym, refl, ap, append_assoc}
use Rattle.std.proofs.Common.{length-append, zero-add}
use Rattle.std.specs.List.{range_with_len, flat_map}
use Rattle.std.proofs.lemmas.Grind.{flat_map-append}
use Rattle.std.proofs.lemmas.List.Elements.{filter-append}
use Rattle.std.proofs.lemmas.List.{append-nil, map-id, take-append-le, take_all}
use Rattle.grid_core.proofs.OneEach.{range_more}
use Rattle.braid_core.specs.FixedPoints.{all_tuples}

-- the tuples of m more colours below q that begin with these
abbrev pub begun : List ℕ → ℕ → ℕ → List (List ℕ)
begun front q m = map (λ (rest : List ℕ). front ++ rest) (all_tuples q m)

-- those of which the next colour is below n
abbrev pub begun_below : List ℕ → ℕ → ℕ → ℕ → List (List ℕ)
begun_below front q m n = flat_map (λ (y : ℕ). begun (front ++ y ∷ []) q m) (range_with_len 0 n)

map_cons : (front : List ℕ) (y : ℕ) (xs : List (List ℕ)) → map (λ (rest : List ℕ). front ++ rest) (map (λ (rest : List ℕ). y ∷ rest) xs)
    ≡ map (λ (rest : List ℕ). (front ++ y ∷ []) ++ rest) xs
map_cons front y [] = refl
map_cons front y (x ∷ xs) = ap (λ (zs : List ℕ). zs ∷ map (λ (rest : List ℕ). front ++ rest) (map (λ (rest : List ℕ). y ∷ rest) xs))
    (sym (append_assoc front (y ∷ []) x)) ∙ ap (λ (zs : List (List ℕ)). ((front ++ y ∷ []) ++ x) ∷ zs) (map_cons front y xs)

map_append : (f : List ℕ → List ℕ) (xs ys : List (List ℕ)) → map f (xs ++ ys) ≡ map f xs ++ map f ys
map_append f [] ys = refl
map_append f (x ∷ xs) ys = ap (λ (zs : List (List ℕ)). f x ∷ zs) (map_append f xs ys)

spread : (front : List ℕ) (q m : ℕ) (colours : List ℕ)
    → map (λ (rest : List ℕ). front ++ rest) (flat_map (λ (y : ℕ). map (λ (rest : List ℕ). y ∷ rest) (all_tuples q m)) colours)
    ≡ flat_map (λ (y : ℕ). begun (front ++ y ∷ []) q m) colours
spread front q m [] = refl
spread front q m (y ∷ colours) =
    map_append (λ (rest : List ℕ). front ++ rest) (map (λ (rest : List ℕ). y ∷ rest) (all_tuples q m))
    (flat_map (λ (z : ℕ). map (λ (rest : List ℕ). z ∷ rest) (all_tuples q m)) colours)
    ∙ (ap (λ (zs : List (List ℕ)). zs ++ map (λ (rest : List ℕ). front ++ rest)
    (flat_map (λ (z : ℕ). map (λ (rest : List ℕ). z ∷ rest) (all_tuples q m)) colours)) (map_cons front y (all_tuples q m))
    ∙ ap (λ (zs : List (List ℕ)). begun (front ++ y ∷ []) q m ++ zs) (spread front q m colours))

-- one more colour is each colour in turn
pub begun_more : (front : List ℕ) (q m n : ℕ) → n ≡ m + 1 → begun_below front q m q ≡ begun front q n
begun_more front q m n e = sym (ap (begun front q) (e ∙ let s : m + 1 ≡ suc m = omega arith in s) ∙ spread front q m (range_with_len 0 q))

-- the colours below n, and then n
pub below_more : (p : List ℕ → Bool) (front : List ℕ) (q m n : ℕ)
    → filter p (begun_below front q m n) ++ filter p (begun (front ++ n ∷ []) q m) ≡ filter p (begun_below front q m (n + 1))
below_more p front q m n =
    sym (filter-append p (begun_below front q m n) (begun (front ++ n ∷ []) q m))
    ∙ ap (filter p) (ap (λ (zs : List (List ℕ)). begun_below front q m n ++ zs) (sym (append-nil (begun (front ++ n ∷ []) q m)))
    ∙ (sym (flat_map-append (λ (y : ℕ). begun (front ++ y ∷ []) q m) (range_with_len 0 n) (n ∷ []))
    ∙ ap (flat_map (λ (y : ℕ). begun (front ++ y ∷ []) q m))
    (sym (ap (range_with_len 0) (let s : n + 1 ≡ suc n = omega arith in s) ∙ (range_more n 0 ∙ ap (λ (z : ℕ). range_with_len 0 n ++ z ∷ []) (zero-add n))))))

-- all tuples are those that begin with none
pub begun_none : (q m : ℕ) → begun [] q m ≡ all_tuples q m
begun_none q m = map-id (all_tuples q m)

-- a loop that has found those of which the next colour is below n finds those in which it is n
pub found_more : (p : List ℕ → Bool) (found now next : List (List ℕ)) (front pushed : List ℕ) (q m n s : ℕ) → now ≡ found ++ filter p (begun_below front q m n)
    → next ≡ now ++ filter p (begun pushed q s) → pushed ≡ front ++ n ∷ [] → s ≡ m → next ≡ found ++ filter p (begun_below front q m (n + 1))
found_more p found now next front pushed q m n s now_is next_is pushed_is s_is =
    next_is
    ∙ (ap (λ (zs : List (List ℕ)). zs ++ filter p (begun pushed q s)) now_is
    ∙ (ap (λ (zs : List ℕ). (found ++ filter p (begun_below front q m n)) ++ filter p (begun zs q s)) pushed_is
    ∙ (ap (λ (z : ℕ). (found ++ filter p (begun_below front q m n)) ++ filter p (begun (front ++ n ∷ []) q z)) s_is
    ∙ (append_assoc found (filter p (begun_below front q m n)) (filter p (begun (front ++ n ∷ []) q m))
    ∙ ap (λ (zs : List (List ℕ)). found ++ zs) (below_more p front q m n)))))

-- at its end it has found all of them
pub found_all : (p : List ℕ → Bool) (found now : List (List ℕ)) (front : List ℕ) (q m n k : ℕ) → now ≡ found ++ filter p (begun_below front q m k) → k ≡ q
    → n ≡ m + 1 → now ≡ found ++ filter p (begun front q n)
found_all p found now front q m n k now_is k_is n_is =
    now_is ∙ (ap (λ (z : ℕ). found ++ filter p (begun_below front q m z)) k_is
    ∙ ap (λ (zs : List (List ℕ)). found ++ filter p zs) (begun_more front q m n n_is))

-- what is left when the last colour is taken away again
pub popped : (front pushed after left : List ℕ) (n k : ℕ) → pushed ≡ front ++ n ∷ [] → after ≡ pushed → k ≡ length after - 1 → left ≡ take k after
    → left ≡ front
popped front pushed after left n k pushed_is after_is k_is left_is =
    let whole : after ≡ front ++ n ∷ [] = after_is ∙ pushed_is in
    let size : k ≡ length front = omega (arith, k_is, ap length whole, length-append front (n ∷ [])) in
    left_is ∙ (ap (take k) whole ∙ (ap (λ (z : ℕ). take z (front ++ n ∷ [])) size
    ∙ (take-append-le (length front) front (n ∷ []) (omega arith) ∙ take_all (length front) front (omega arith))))

-- what is found from no colours on
pub found_from_none : (p : List ℕ → Bool) (found now : List (List ℕ)) (front : List ℕ) (q m n : ℕ) → found ≡ [] → front ≡ [] → n ≡ m - length front
    → now ≡ found ++ filter p (begun front q n) → now ≡ filter p (all_tuples q m)
found_from_none p found now front q m n found_is front_is n_is now_is =
    let size : n ≡ m = omega (arith, n_is, ap length front_is) in
    now_is
    ∙ (ap (λ (zs : List (List ℕ)). zs ++ filter p (begun front q n)) found_is
    ∙ (ap (λ (zs : List ℕ). filter p (begun zs q n)) front_is
    ∙ (ap (λ (z : ℕ). filter p (begun [] q z)) size
    ∙ ap (filter p) (begun_none q m))))
