-- Lists of lists: one of them replaced, and the first id of the first that has one.
use Rattle.std.proofs.Common.{◌≡◌, ◌≢◌, ap, ap₂, refl, ℕ, zero, suc, ◌<◌, List, [], ◌∷◌, length, map, get_or, set, arith, Some, None}
use Rattle.frontier_core.specs.Held.{first_id, without_first_id}

-- two functions that agree at each element
map_same : {A B : Type 0} (f g : A → B) (d : A) (xs : List A) → ((t : ℕ) → t < length xs → f (get_or xs t d) ≡ g (get_or xs t d)) → map f xs ≡ map g xs
map_same f g d [] same = refl
map_same f g d (x ∷ xs) same = ap₂ (λ y ys. y ∷ ys) (same 0 (omega arith)) (map_same f g d xs (λ t lt. same (suc t) (omega arith)))

-- two functions that agree at each element but one, which is replaced
pub map-set : {A B : Type 0} (f g : A → B) (d : A) (xs : List A) (s : ℕ) (x : A) (y : B) → f x ≡ y
    → ((t : ℕ) → t < length xs → t ≢ s → f (get_or xs t d) ≡ g (get_or xs t d)) → map f (set xs s x) ≡ set (map g xs) s y
map-set f g d [] s x y is same = refl
map-set f g d (z ∷ xs) zero x y is same = ap₂ (λ b bs. b ∷ bs) is (map_same f g d xs (λ t lt. same (suc t) (omega arith) (λ e. absurd (omega (arith, e)))))
map-set f g d (z ∷ xs) (suc s) x y is same = ap₂ (λ b bs. b ∷ bs) (same 0 (omega arith) (λ e. absurd (omega (arith, e))))
    (map-set f g d xs s x y is (λ t lt other. same (suc t) (omega arith) (λ e. other (omega (arith, e)))))

-- the first id of a list before which all are empty
pub first_found : (lists : List (List ℕ)) (s id : ℕ) (ids : List ℕ) → get_or lists s [] ≡ id ∷ ids → ((t : ℕ) → t < s → get_or lists t [] ≡ [])
    → (first_id lists ≡ Some id) × (without_first_id lists ≡ set lists s ids)
first_found [] s id ids is none = cc
first_found ([] ∷ lists) zero id ids is none = cc
first_found ((x ∷ xs) ∷ lists) zero id ids is none = (cc, cc)
first_found ([] ∷ lists) (suc s) id ids is none =
    let rest = first_found lists s id ids is (λ t lt. none (suc t) (omega arith)) in
    (rest.0, ap (λ more. [] ∷ more) rest.1)
first_found ((x ∷ xs) ∷ lists) (suc s) id ids is none = let empty = none 0 (omega arith) in cc

-- no first id where all are empty
pub none_found : (lists : List (List ℕ)) → ((t : ℕ) → t < length lists → get_or lists t [] ≡ []) → (first_id lists ≡ None) × (without_first_id lists ≡ lists)
none_found [] none = (refl, refl)
none_found ([] ∷ lists) none =
    let rest = none_found lists (λ t lt. none (suc t) (omega arith)) in
    (rest.0, ap (λ more. [] ∷ more) rest.1)
none_found ((x ∷ xs) ∷ lists) none = let empty = none 0 (omega arith) in cc
