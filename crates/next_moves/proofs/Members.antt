-- Members of lists that were mapped and filtered.
use Rattle.std.proofs.Common.{◌≡◌, ◌<◌, ◌∷◌, ◌∙◌, [], ℕ, zero, suc, List, Bool, true, false, cond, filter, map, length, get_or, arith, sym, refl, ap, subst}
use Rattle.std.specs.List.{All, Contains}
use Rattle.std.proofs.lemmas.List.Elements.{All-head, All-tail}

-- the first, or one of the others
pub contains_first : {A : Type 0} (x : A) (xs : List A) → Contains (x ∷ xs) x
contains_first x xs = (0, omega arith, refl)

pub contains_later : {A : Type 0} (x : A) (xs : List A) (y : A) → Contains xs y → Contains (x ∷ xs) y
contains_later x xs y c = (suc c.0, omega (arith, c.1), c.2)

contains_filter_at : {A : Type 0} (test : A → Bool) (xs : List A) (x : A) (k : ℕ) → k < length xs → get_or xs k x ≡ x → test x ≡ true
    → Contains (filter test xs) x
contains_filter_at test [] x k lt is pass = absurd (omega (arith, lt))
contains_filter_at test (y ∷ ys) x zero lt is pass =
    subst (λ zs. Contains zs x) (sym (ap (λ b. cond b (y ∷ filter test ys) (filter test ys)) (ap test is ∙ pass)))
    (subst (λ z. Contains (z ∷ filter test ys) x) (sym is) (contains_first x (filter test ys)))
contains_filter_at test (y ∷ ys) x (suc k) lt is pass = by (test y) refl (contains_filter_at test ys x k (omega (arith, lt)) is pass)
  where
    by : (b : Bool) → test y ≡ b → Contains (filter test ys) x → Contains (filter test (y ∷ ys)) x
    by true e c = subst (λ zs. Contains zs x) (sym (ap (λ b. cond b (y ∷ filter test ys) (filter test ys)) e)) (contains_later y (filter test ys) x c)
    by false e c = subst (λ zs. Contains zs x) (sym (ap (λ b. cond b (y ∷ filter test ys) (filter test ys)) e)) c

pub contains_filter : {A : Type 0} (test : A → Bool) (xs : List A) (x : A) → Contains xs x → test x ≡ true → Contains (filter test xs) x
contains_filter test xs x c pass = contains_filter_at test xs x c.0 c.1 c.2 pass

-- what a filter kept
filter_kept : {A : Type 0} (test : A → Bool) (xs : List A) (zs : List A) (x : A) → zs ≡ filter test xs → Contains zs x → Contains xs x × (test x ≡ true)
filter_kept test [] zs x e c = absurd (omega (arith, c.1, ap length e))
filter_kept {A} test (y ∷ ys) zs x e c = by (test y) refl (filter_kept test ys (filter test ys) x refl)
  where
    at : (k : ℕ) → k < length (y ∷ filter test ys) → get_or (y ∷ filter test ys) k x ≡ x → test y ≡ true
        → (Contains (filter test ys) x → Contains ys x × (test x ≡ true)) → Contains (y ∷ ys) x × (test x ≡ true)
    at zero lt is pass rest = (subst (λ z. Contains (z ∷ ys) x) (sym is) (contains_first x ys), sym (ap test is) ∙ pass)
    at (suc k) lt is pass rest = let r = rest (k, omega (arith, lt), is) in (contains_later y ys x r.0, r.1)

    by : (b : Bool) → test y ≡ b → (Contains (filter test ys) x → Contains ys x × (test x ≡ true)) → Contains (y ∷ ys) x × (test x ≡ true)
    by true pass rest =
        let c' : Contains (y ∷ filter test ys) x = subst (λ ws. Contains ws x) (e ∙ ap (λ b. cond b (y ∷ filter test ys) (filter test ys)) pass) c in
        at c'.0 c'.1 c'.2 pass rest
    by false fail rest =
        let c' : Contains (filter test ys) x = subst (λ ws. Contains ws x) (e ∙ ap (λ b. cond b (y ∷ filter test ys) (filter test ys)) fail) c in
        let r = rest c' in (contains_later y ys x r.0, r.1)

pub filter_contains : {A : Type 0} (test : A → Bool) (xs : List A) (x : A) → Contains (filter test xs) x → Contains xs x × (test x ≡ true)
filter_contains test xs x c = filter_kept test xs (filter test xs) x refl c

-- what was mapped to a member
mapped_at : {A B : Type 0} (f : A → B) (xs : List A) (y : B) (k : ℕ) → k < length (map f xs) → get_or (map f xs) k y ≡ y → (x : A) × Contains xs x × (f x ≡ y)
mapped_at f [] y k lt is = absurd (omega (arith, lt))
mapped_at f (x ∷ xs) y zero lt is = (x, contains_first x xs, is)
mapped_at f (x ∷ xs) y (suc k) lt is = let r = mapped_at f xs y k (omega (arith, lt)) is in (r.0, contains_later x xs r.0 r.1, r.2)

pub mapped_from : {A B : Type 0} (f : A → B) (xs : List A) (y : B) → Contains (map f xs) y → (x : A) × Contains xs x × (f x ≡ y)
mapped_from f xs y c = mapped_at f xs y c.0 c.1 c.2

-- filters and maps in another order
filter_first : {A : Type 0} (test : A → Bool) (x : A) (xs : List A) (b : Bool) → test x ≡ b
    → filter test (x ∷ xs) ≡ cond b (x ∷ filter test xs) (filter test xs)
filter_first test x xs b is = ap (λ t. cond t (x ∷ filter test xs) (filter test xs)) is

pub map_filter : {A B : Type 0} (f : A → B) (test : B → Bool) (xs : List A) → map f (filter (λ x. test (f x)) xs) ≡ filter test (map f xs)
map_filter f test [] = refl
map_filter f test (x ∷ xs) = by (test (f x)) refl (map_filter f test xs)
  where
    by : (b : Bool) → test (f x) ≡ b → map f (filter (λ y. test (f y)) xs) ≡ filter test (map f xs)
        → map f (filter (λ y. test (f y)) (x ∷ xs)) ≡ filter test (f x ∷ map f xs)
    by true is rest =
        ap (map f) (filter_first (λ y. test (f y)) x xs true is) ∙ ap (λ ys. f x ∷ ys) rest ∙ sym (filter_first test (f x) (map f xs) true is)
    by false is rest =
        ap (map f) (filter_first (λ y. test (f y)) x xs false is) ∙ rest ∙ sym (filter_first test (f x) (map f xs) false is)

pub filter_swap : {A : Type 0} (p q : A → Bool) (xs : List A) → filter p (filter q xs) ≡ filter q (filter p xs)
filter_swap p q [] = refl
filter_swap p q (x ∷ xs) = by (p x) (q x) refl refl (filter_swap p q xs)
  where
    by : (a b : Bool) → p x ≡ a → q x ≡ b → filter p (filter q xs) ≡ filter q (filter p xs) → filter p (filter q (x ∷ xs)) ≡ filter q (filter p (x ∷ xs))
    by true true a b rest =
        ap (filter p) (filter_first q x xs true b) ∙ filter_first p x (filter q xs) true a ∙ ap (λ ys. x ∷ ys) rest
        ∙ sym (ap (filter q) (filter_first p x xs true a) ∙ filter_first q x (filter p xs) true b)
    by true false a b rest =
        ap (filter p) (filter_first q x xs false b) ∙ rest ∙ sym (ap (filter q) (filter_first p x xs true a) ∙ filter_first q x (filter p xs) false b)
    by false true a b rest =
        ap (filter p) (filter_first q x xs true b) ∙ filter_first p x (filter q xs) false a ∙ rest ∙ sym (ap (filter q) (filter_first p x xs false a))
    by false false a b rest = ap (filter p) (filter_first q x xs false b) ∙ rest ∙ sym (ap (filter q) (filter_first p x xs false a))

pub filter_none : {A : Type 0} (test : A → Bool) (xs : List A) → All (λ x. test x ≡ false) xs → filter test xs ≡ []
filter_none test [] none = refl
filter_none test (x ∷ xs) none =
    filter_first test x xs false (All-head (λ y. test y ≡ false) x xs none) ∙ filter_none test xs (All-tail (λ y. test y ≡ false) x xs none)
