-- What stands in a list, and lists in which nothing stands twice.
use Rattle.std.proofs.Common.{◌≡◌, ◌<◌, ◌≤◌, ◌+◌, ◌++◌, ◌∷◌, ◌∙◌, ◌⊎◌, [], inl, inr, ℕ, zero, suc, Bool, true, false, cond, List, length}
use Rattle.std.proofs.Common.{get_or, map, reverse, sym, subst, refl, ap, arith}
use Rattle.std.specs.List.{range_with_len, filter, flat_map}
use Rattle.std.specs.List.Sorted.{IsPermutation}
use Rattle.std.proofs.lemmas.Bool.{cases_eq}
use Rattle.std.proofs.lemmas.List.{reverse-append, length-append}
use Rattle.std.proofs.lemmas.List.Sorted.{IsPermutation-refl, IsPermutation-cons, IsPermutation-trans, IsPermutation-sym, IsPermutation-middle}

-- x stands in the list
abbrev pub Has : {A : Type 0} → List A → A → Type 0
Has [] x = ⊥
Has (y ∷ ys) x = (y ≡ x) ⊎ Has ys x

-- nothing stands in the list twice
abbrev pub Apart : {A : Type 0} → List A → Type 0
Apart [] = Unit {0}
Apart (x ∷ xs) = (Has xs x → ⊥) × Apart xs

pub has_left : {A : Type 0} (xs ys : List A) (x : A) → Has xs x → Has (xs ++ ys) x
has_left [] ys x h = absurd h
has_left (y ∷ xs) ys x h = elim h [ inl e ↦ inl e | inr more ↦ inr (has_left xs ys x more) ]

pub has_right : {A : Type 0} (xs ys : List A) (x : A) → Has ys x → Has (xs ++ ys) x
has_right [] ys x h = h
has_right (y ∷ xs) ys x h = inr (has_right xs ys x h)

pub has_either : {A : Type 0} (xs ys : List A) (x : A) → Has (xs ++ ys) x → Has xs x ⊎ Has ys x
has_either [] ys x h = inr h
has_either (y ∷ xs) ys x h = elim h [
  | inl e ↦ inl (inl e)
  | inr more ↦ elim (has_either xs ys x more) [ inl l ↦ inl (inr l) | inr r ↦ inr r ]
]

pub has_map : {A B : Type 0} (f : A → B) (xs : List A) (x : A) → Has xs x → Has (map f xs) (f x)
has_map f [] x h = h
has_map f (y ∷ xs) x h = elim h [ inl e ↦ inl (ap f e) | inr more ↦ inr (has_map f xs x more) ]

pub of_map : {A B : Type 0} (f : A → B) (xs : List A) (y : B) → Has (map f xs) y → (x : A) × Has xs x × (f x ≡ y)
of_map f [] y h = absurd h
of_map f (x ∷ xs) y h = elim h [
  | inl e ↦ (x, inl refl, e)
  | inr more ↦ let r = of_map f xs y more in (r.0, inr r.1, r.2)
]

pub has_filter : {A : Type 0} (p : A → Bool) (xs : List A) (x : A) → Has xs x → p x ≡ true → Has (filter p xs) x
has_filter p [] x h e = h
has_filter p (y ∷ xs) x h e = by (p y) refl (λ more. has_filter p xs x more e)
  where
    by : (t : Bool) → p y ≡ t → (Has xs x → Has (filter p xs) x) → Has (filter p (y ∷ xs)) x
    by true is later = subst (λ b. Has (cond b (y ∷ filter p xs) (filter p xs)) x) (sym is) (elim h [ inl same ↦ inl same | inr more ↦ inr (later more) ])
    by false is later = subst (λ b. Has (cond b (y ∷ filter p xs) (filter p xs)) x) (sym is) (elim h [
      | inl same ↦ absurd (let e : false ≡ true = sym is ∙ (ap p same ∙ e) in cc)
      | inr more ↦ later more
    ])

pub of_filter : {A : Type 0} (p : A → Bool) (xs : List A) (x : A) → Has (filter p xs) x → Has xs x × (p x ≡ true)
of_filter p [] x h = absurd h
of_filter p (y ∷ xs) x h = by (p y) refl (of_filter p xs x)
  where
    by : (t : Bool) → p y ≡ t → (Has (filter p xs) x → Has xs x × (p x ≡ true)) → Has (y ∷ xs) x × (p x ≡ true)
    by true is later = elim (subst (λ b. Has (cond b (y ∷ filter p xs) (filter p xs)) x) is h) [
      | inl same ↦ (inl same, ap p (sym same) ∙ is)
      | inr more ↦ let r = later more in (inr r.0, r.1)
    ]
    by false is later = let r = later (subst (λ b. Has (cond b (y ∷ filter p xs) (filter p xs)) x) is h) in (inr r.0, r.1)

pub has_flat_map : {A B : Type 0} (f : A → List B) (xs : List A) (x : A) (y : B) → Has xs x → Has (f x) y → Has (flat_map f xs) y
has_flat_map f [] x y h k = absurd h
has_flat_map f (z ∷ xs) x y h k = elim h [
  | inl e ↦ has_left (f z) (flat_map f xs) y (subst (λ w. Has (f w) y) (sym e) k)
  | inr more ↦ has_right (f z) (flat_map f xs) y (has_flat_map f xs x y more k)
]

pub of_flat_map : {A B : Type 0} (f : A → List B) (xs : List A) (y : B) → Has (flat_map f xs) y → (x : A) × Has xs x × Has (f x) y
of_flat_map f [] y h = absurd h
of_flat_map f (z ∷ xs) y h = elim (has_either (f z) (flat_map f xs) y h) [
  | inl here ↦ (z, inl refl, here)
  | inr more ↦ let r = of_flat_map f xs y more in (r.0, inr r.1, r.2)
]

pub has_range : (a n k : ℕ) → a ≤ k → k < a + n → Has (range_with_len a n) k
has_range a zero k least most = absurd (omega arith)
has_range a (suc n) k least most = elim (cases_eq a k) [
  | inl e ↦ inl e
  | inr other ↦ inr (has_range (a + 1) n k (omega arith) (omega arith))
]

pub of_range : (a n k : ℕ) → Has (range_with_len a n) k → (a ≤ k) × (k < a + n)
of_range a zero k h = absurd h
of_range a (suc n) k h = elim h [
  | inl e ↦ (omega arith, omega arith)
  | inr more ↦ let r = of_range (a + 1) n k more in (omega arith, omega arith)
]

pub reverse_cons : {A : Type 0} (x : A) (xs : List A) → reverse (x ∷ xs) ≡ reverse xs ++ x ∷ []
reverse_cons x xs = reverse-append (x ∷ []) xs

pub has_reverse : {A : Type 0} (xs : List A) (x : A) → Has xs x → Has (reverse xs) x
has_reverse [] x h = absurd h
has_reverse (y ∷ xs) x h = subst (λ zs. Has zs x) (sym (reverse_cons y xs)) (elim h [
  | inl e ↦ has_right (reverse xs) (y ∷ []) x (inl e)
  | inr more ↦ has_left (reverse xs) (y ∷ []) x (has_reverse xs x more)
])

pub of_reverse : {A : Type 0} (xs : List A) (x : A) → Has (reverse xs) x → Has xs x
of_reverse [] x h = h
of_reverse (y ∷ xs) x h = elim (has_either (reverse xs) (y ∷ []) x (subst (λ zs. Has zs x) (reverse_cons y xs) h)) [
  | inl more ↦ inr (of_reverse xs x more)
  | inr last ↦ elim last [ inl e ↦ inl e | inr none ↦ absurd none ]
]

-- by place
pub has_at : {A : Type 0} (xs : List A) (k : ℕ) (d : A) → k < length xs → Has xs (get_or xs k d)
has_at [] k d lt = absurd (omega arith)
has_at (x ∷ xs) zero d lt = inl refl
has_at (x ∷ xs) (suc k) d lt = inr (has_at xs k d (omega arith))

pub place_in : {A : Type 0} (xs : List A) (x : A) → Has xs x → (k : ℕ) × (k < length xs) × ((d : A) → get_or xs k d ≡ x)
place_in [] x h = absurd h
place_in (y ∷ xs) x h = elim h [
  | inl e ↦ (0, omega arith, λ d. e)
  | inr more ↦ let r = place_in xs x more in (suc r.0, let lt = r.1 in omega arith, r.2)
]

pub apart_append : {A : Type 0} (xs ys : List A) → Apart xs → Apart ys → ((x : A) → Has xs x → Has ys x → ⊥) → Apart (xs ++ ys)
apart_append [] ys a b clear = b
apart_append (x ∷ xs) ys a b clear = (
  λ h. elim (has_either xs ys x h) [ inl l ↦ a.0 l | inr r ↦ clear x (inl refl) r ],
  apart_append xs ys a.1 b (λ z l r. clear z (inr l) r),
)

pub apart_left : {A : Type 0} (xs ys : List A) → Apart (xs ++ ys) → Apart xs
apart_left [] ys a = tt
apart_left (x ∷ xs) ys a = (λ h. a.0 (has_left xs ys x h), apart_left xs ys a.1)

pub apart_map : {A B : Type 0} (f : A → B) (xs : List A) → ((x y : A) → Has xs x → Has xs y → f x ≡ f y → x ≡ y) → Apart xs → Apart (map f xs)
apart_map f [] one a = tt
apart_map f (x ∷ xs) one a = (
  λ h. let r = of_map f xs (f x) h in a.0 (subst (λ z. Has xs z) (one r.0 x (inr r.1) (inl refl) r.2) r.1),
  apart_map f xs (λ y z hy hz e. one y z (inr hy) (inr hz) e) a.1,
)

pub apart_filter : {A : Type 0} (p : A → Bool) (xs : List A) → Apart xs → Apart (filter p xs)
apart_filter p [] a = tt
apart_filter p (x ∷ xs) a = by (p x) refl (apart_filter p xs a.1)
  where
    by : (t : Bool) → p x ≡ t → Apart (filter p xs) → Apart (filter p (x ∷ xs))
    by true is later = subst (λ b. Apart (cond b (x ∷ filter p xs) (filter p xs))) (sym is) (λ h. a.0 (of_filter p xs x h).0, later)
    by false is later = subst (λ b. Apart (cond b (x ∷ filter p xs) (filter p xs))) (sym is) later

pub apart_range : (a n : ℕ) → Apart (range_with_len a n)
apart_range a zero = tt
apart_range a (suc n) = (λ h. let r = of_range (a + 1) n a h in absurd (omega arith), apart_range (a + 1) n)

pub apart_reverse : {A : Type 0} (xs : List A) → Apart xs → Apart (reverse xs)
apart_reverse [] a = tt
apart_reverse (x ∷ xs) a =
    subst (λ zs. Apart zs) (sym (reverse_cons x xs))
    (apart_append (reverse xs) (x ∷ []) (apart_reverse xs a.1) (λ h. h, tt)
    (λ z l r. elim r [ inl e ↦ a.0 (of_reverse xs x (subst (λ w. Has (reverse xs) w) (sym e) l)) | inr none ↦ none ]))

pub apart_flat_map : {A B : Type 0} (f : A → List B) (xs : List A) → ((x : A) → Has xs x → Apart (f x))
    → ((x y : A) (z : B) → Has xs x → Has xs y → Has (f x) z → Has (f y) z → x ≡ y) → Apart xs → Apart (flat_map f xs)
apart_flat_map f [] each one a = tt
apart_flat_map f (x ∷ xs) each one a =
    apart_append (f x) (flat_map f xs) (each x (inl refl))
    (apart_flat_map f xs (λ y h. each y (inr h)) (λ y z w hy hz k l. one y z w (inr hy) (inr hz) k l) a.1)
    (λ z l r. let s = of_flat_map f xs z r in a.0 (subst (λ w. Has xs w) (sym (one x s.0 z (inl refl) (inr s.1) l s.2)) s.1))

-- one place for each
pub one_place : {A : Type 0} (xs : List A) (d : A) (i j : ℕ) → Apart xs → i < length xs → j < length xs → get_or xs i d ≡ get_or xs j d → i ≡ j
one_place [] d i j a hi hj e = absurd (omega arith)
one_place (x ∷ xs) d zero zero a hi hj e = refl
one_place (x ∷ xs) d zero (suc j) a hi hj e = absurd (a.0 (subst (λ z. Has xs z) (sym e) (has_at xs j d (omega arith))))
one_place (x ∷ xs) d (suc i) zero a hi hj e = absurd (a.0 (subst (λ z. Has xs z) e (has_at xs i d (omega arith))))
one_place (x ∷ xs) d (suc i) (suc j) a hi hj e = ap suc (one_place xs d i j a.1 (omega arith) (omega arith) e)

-- two lists of the same members, none of them twice, differ in their order alone
pub cut_at : {A : Type 0} (xs : List A) (x : A) → Has xs x → (front : List A) × (back : List A) × (xs ≡ front ++ x ∷ back)
cut_at [] x h = absurd h
cut_at (y ∷ xs) x h = elim h [
  | inl e ↦ ([], xs, ap (λ z. z ∷ xs) e)
  | inr more ↦ let r = cut_at xs x more in (y ∷ r.0, r.1, ap (λ zs. y ∷ zs) r.2)
]

without : {A : Type 0} (front back : List A) (x : A) → Apart (front ++ x ∷ back) → Apart (front ++ back) × (Has (front ++ back) x → ⊥)
without [] back x a = (a.1, a.0)
without (y ∷ front) back x a =
    let rest = without front back x a.1 in (
      (λ h. elim (has_either front back y h) [ inl l ↦ a.0 (has_left front (x ∷ back) y l) | inr r ↦ a.0 (has_right front (x ∷ back) y (inr r)) ], rest.0),
      λ h. elim h [ inl e ↦ a.0 (has_right front (x ∷ back) y (inl (sym e))) | inr more ↦ rest.1 more ],
    )

pub same_members : {A : Type 0} (xs ys : List A) → Apart xs → Apart ys → ((x : A) → Has xs x → Has ys x) → ((x : A) → Has ys x → Has xs x) → IsPermutation xs ys
same_members [] [] a b into from = IsPermutation-refl []
same_members [] (y ∷ ys) a b into from = absurd (from y (inl refl))
same_members (x ∷ xs) ys a b into from =
    let cut = cut_at ys x (into x (inl refl)) in
    let rest = without cut.0 cut.1 x (subst (λ zs. Apart zs) cut.2 b) in
    let tail : IsPermutation xs (cut.0 ++ cut.1) = same_members xs (cut.0 ++ cut.1) a.1 rest.0
    (λ z h. elim (has_either cut.0 (x ∷ cut.1) z (subst (λ zs. Has zs z) cut.2 (into z (inr h)))) [
      | inl l ↦ has_left cut.0 cut.1 z l
      | inr r ↦ elim r [ inl e ↦ absurd (a.0 (subst (λ w. Has xs w) (sym e) h)) | inr more ↦ has_right cut.0 cut.1 z more ]
    ])
    (λ z h. elim
    (from z (subst (λ zs. Has zs z) (sym cut.2)
    (elim (has_either cut.0 cut.1 z h) [ inl l ↦ has_left cut.0 (x ∷ cut.1) z l | inr r ↦ has_right cut.0 (x ∷ cut.1) z (inr r) ]))) [
      | inl e ↦ absurd (rest.1 (subst (λ w. Has (cut.0 ++ cut.1) w) (sym e) h))
      | inr more ↦ more
    ])
    in
    IsPermutation-trans (x ∷ xs) (x ∷ (cut.0 ++ cut.1)) ys (IsPermutation-cons x xs (cut.0 ++ cut.1) tail)
    (subst (λ zs. IsPermutation (x ∷ (cut.0 ++ cut.1)) zs) (sym cut.2)
    (IsPermutation-sym (cut.0 ++ x ∷ cut.1) (x ∷ (cut.0 ++ cut.1)) (IsPermutation-middle cut.0 x cut.1)))

-- members of ys, none of them twice, are at most as many as ys
pub fewer : {A : Type 0} (xs ys : List A) → Apart xs → ((x : A) → Has xs x → Has ys x) → length xs ≤ length ys
fewer [] ys a into = omega arith
fewer (x ∷ xs) ys a into =
    let cut = cut_at ys x (into x (inl refl)) in
    let rest = fewer xs (cut.0 ++ cut.1) a.1 (λ z h. elim (has_either cut.0 (x ∷ cut.1) z (subst (λ zs. Has zs z) cut.2 (into z (inr h)))) [
      | inl l ↦ has_left cut.0 cut.1 z l
      | inr r ↦ elim r [ inl e ↦ absurd (a.0 (subst (λ w. Has xs w) (sym e) h)) | inr more ↦ has_right cut.0 cut.1 z more ]
    ]) in
    omega (arith, rest, ap length cut.2, length-append cut.0 (x ∷ cut.1), length-append cut.0 cut.1)
