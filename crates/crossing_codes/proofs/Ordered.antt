-- Lists in which each element stands in a relation to all that follow.
use Rattle.std.proofs.Common.{◌≡◌, ◌<◌, ◌+◌, ◌++◌, ◌∷◌, [], inl, inr, ℕ, zero, suc, Bool, true, false, cond, List, map, reverse, get_or}
use Rattle.std.proofs.Common.{refl, sym, subst, arith}
use Rattle.std.specs.List.{range_with_len, filter, flat_map, AllPairs}
use Rattle.crossing_codes.proofs.Members.{Has, has_at, has_either, of_map, of_filter, of_range, of_reverse, of_flat_map, reverse_cons}

abbrev pub Ordered : {A : Type 0} → (A → A → Type 0) → List A → Type 0
Ordered R [] = Unit {0}
Ordered R (x ∷ xs) = ((y : _) → Has xs y → R x y) × Ordered R xs

pub ordered_append : {A : Type 0} (R : A → A → Type 0) (xs ys : List A) → Ordered R xs → Ordered R ys
    → ((x y : A) → Has xs x → Has ys y → R x y) → Ordered R (xs ++ ys)
ordered_append R [] ys a b between = b
ordered_append R (x ∷ xs) ys a b between = (
  λ y h. elim (has_either xs ys y h) [ inl l ↦ a.0 y l | inr r ↦ between x y (inl refl) r ],
  ordered_append R xs ys a.1 b (λ z y hz hy. between z y (inr hz) hy),
)

pub ordered_map : {A B : Type 0} (R : A → A → Type 0) (S : B → B → Type 0) (f : A → B) (xs : List A)
    → ((x y : A) → Has xs x → Has xs y → R x y → S (f x) (f y)) → Ordered R xs → Ordered S (map f xs)
ordered_map R S f [] each a = tt
ordered_map R S f (x ∷ xs) each a = (
  λ y h. let r = of_map f xs y h in subst (λ z. S (f x) z) r.2 (each x r.0 (inl refl) (inr r.1) (a.0 r.0 r.1)),
  ordered_map R S f xs (λ y z hy hz. each y z (inr hy) (inr hz)) a.1,
)

pub ordered_filter : {A : Type 0} (R : A → A → Type 0) (p : A → Bool) (xs : List A) → Ordered R xs → Ordered R (filter p xs)
ordered_filter R p [] a = tt
ordered_filter R p (x ∷ xs) a = by (p x) refl (ordered_filter R p xs a.1)
  where
    by : (t : Bool) → p x ≡ t → Ordered R (filter p xs) → Ordered R (filter p (x ∷ xs))
    by true is later = subst (λ b. Ordered R (cond b (x ∷ filter p xs) (filter p xs))) (sym is) (λ y h. a.0 y (of_filter p xs y h).0, later)
    by false is later = subst (λ b. Ordered R (cond b (x ∷ filter p xs) (filter p xs))) (sym is) later

pub ordered_range : (a n : ℕ) → Ordered (λ (x y : ℕ). x < y) (range_with_len a n)
ordered_range a zero = tt
ordered_range a (suc n) = (λ y h. let r = of_range (a + 1) n y h in omega arith, ordered_range (a + 1) n)

pub ordered_reverse : {A : Type 0} (R : A → A → Type 0) (xs : List A) → Ordered R xs → Ordered (λ x y. R y x) (reverse xs)
ordered_reverse R [] a = tt
ordered_reverse R (x ∷ xs) a =
    subst (λ zs. Ordered (λ y z. R z y) zs) (sym (reverse_cons x xs))
    (ordered_append (λ y z. R z y) (reverse xs) (x ∷ []) (ordered_reverse R xs a.1) (λ y h. absurd h, tt)
    (λ y z hy hz. elim hz [ inl e ↦ subst (λ w. R w y) e (a.0 y (of_reverse xs y hy)) | inr none ↦ absurd none ]))

pub ordered_flat_map : {A B : Type 0} (R : A → A → Type 0) (S : B → B → Type 0) (f : A → List B) (xs : List A)
    → ((x : A) → Has xs x → Ordered S (f x))
    → ((x y : A) (a b : B) → R x y → Has (f x) a → Has (f y) b → S a b) → Ordered R xs → Ordered S (flat_map f xs)
ordered_flat_map R S f [] each between a = tt
ordered_flat_map R S f (x ∷ xs) each between a =
    ordered_append S (f x) (flat_map f xs) (each x (inl refl)) (ordered_flat_map R S f xs (λ y h. each y (inr h)) between a.1)
    (λ u v hu hv. let r = of_flat_map f xs v hv in between x r.0 u v (a.0 r.0 r.1) hu r.2)

pub all_pairs : {A : Type 0} (R : A → A → Type 0) (xs : List A) → Ordered R xs → AllPairs R xs
all_pairs R [] a i j d less lt = absurd (omega arith)
all_pairs R (x ∷ xs) a zero zero d less lt = absurd (omega arith)
all_pairs R (x ∷ xs) a zero (suc j) d less lt = a.0 (get_or xs j d) (has_at xs j d (omega arith))
all_pairs R (x ∷ xs) a (suc i) zero d less lt = absurd (omega arith)
all_pairs R (x ∷ xs) a (suc i) (suc j) d less lt = all_pairs R xs a.1 i j d (omega arith) (omega arith)
