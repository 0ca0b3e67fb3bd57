-- The list of all tuples has each tuple once, in lexicographic order, and the fixed points are those that equal their image.
use Rattle.std.proofs.Common.{◌≡◌, ◌<◌, ◌≤◌, ◌+◌, ◌++◌, ◌∷◌, ◌∙◌, [], ℕ, zero, suc, List, Bool, true, false, cond, All, length, get_or, map, filter, arith, sym}
use Rattle.std.proofs.Common.{refl, ap, subst, ◌⊎◌, inl, inr}
use Rattle.std.specs.List.{range_with_len, flat_map, Contains, AllPairs}
use Rattle.std.specs.declared.cmp.Ordering.TheVariants.{Less, Equal, Greater}
use Rattle.std.specs.Cmp.Lexicographic.{slice_cmp}
use Rattle.std.specs.Ordering.{nat_cmp, ordering_then}
use Rattle.std.specs.Prelude.{◌==◌}
use Rattle.std.proofs.lemmas.Bool.{lt-ltb, le-ltb, eq-eqb, cases_eq, true≢false}
use Rattle.std.proofs.lemmas.Slice.Eq.{bytes_eq-Decides}
use Rattle.std.proofs.lemmas.List.{get_or-map, length-map}
use Rattle.std.proofs.lemmas.List.Kept.{AllPairs-cons, AllPairs-filter}
use Rattle.std.proofs.lemmas.List.Elements.{All-nil, All-cons, All-head, All-tail, All-append, All-map, All-filter, All-weaker, All-contains, filter_passes}
use Rattle.std.proofs.lemmas.List.Elements.{Contains-append_left, Contains-append_right}
use Rattle.quandle_core.specs.Quandle.{Table}
use Rattle.braid_core.specs.Braid.{Word}
use Rattle.braid_core.specs.Action.{IsTuple, action}
use Rattle.braid_core.specs.FixedPoints.{all_tuples, is_fixed, fixed_points, IsFixedPoint}

-- xs comes before ys in lexicographic order
abbrev pub IsBefore : List ℕ → List ℕ → Type 0
IsBefore xs ys = slice_cmp nat_cmp xs ys ≡ Less

-- the tuples of which the first colour is one of n from a on
abbrev heads : ℕ → ℕ → List (List ℕ) → List (List ℕ)
heads a n tuples = flat_map (λ (y : ℕ). map (λ (rest : List ℕ). y ∷ rest) tuples) (range_with_len a n)

contains_map : {A B : Type 0} (f : A → B) (xs : List A) (x : A) → Contains xs x → Contains (map f xs) (f x)
contains_map f xs x at = (at.0, omega (arith, at.1, length-map xs f), get_or-map f xs at.0 x (f x) at.1 ∙ ap f at.2)

contains_later : {A : Type 0} (y x : A) (xs : List A) → Contains xs x → Contains (y ∷ xs) x
contains_later y x xs at = (suc at.0, omega (arith, at.1), at.2)

contains_first : {A : Type 0} (y x : A) (xs : List A) → y ≡ x → Contains (y ∷ xs) x
contains_first y x xs e = (0, omega arith, e)

contains_at : {A : Type 0} (y x : A) (xs : List A) (k : ℕ) → k < length (y ∷ xs) → get_or (y ∷ xs) k x ≡ x → (y ≡ x) ⊎ Contains xs x
contains_at y x xs zero lt e = inl e
contains_at y x xs (suc k) lt e = inr (k, omega (arith, lt), e)

filter_step : {A : Type 0} (y x : A) (kept : List A) (t : Bool) → (y ≡ x → t ≡ true) → (y ≡ x) ⊎ Contains kept x → Contains (cond t (y ∷ kept) kept) x
filter_step y x kept true passes (inl e) = contains_first y x kept e
filter_step y x kept true passes (inr at) = contains_later y x kept at
filter_step y x kept false passes (inl e) = absurd (true≢false (sym (passes e)))
filter_step y x kept false passes (inr at) = at

contains_filter : {A : Type 0} (p : A → Bool) (x : A) (xs : List A) → p x ≡ true → Contains xs x → Contains (filter p xs) x
contains_filter p x [] passes at = at
contains_filter p x (y ∷ xs) passes at =
    filter_step y x (filter p xs) (p y) (λ e. ap p e ∙ passes)
    (elim (contains_at y x xs at.0 at.1 at.2) [ inl e ↦ inl e | inr rest ↦ inr (contains_filter p x xs passes rest) ])

contains_heads : (a n y : ℕ) (rest : List ℕ) (tuples : List (List ℕ)) → a ≤ y → y < a + n → Contains tuples rest → Contains (heads a n tuples) (y ∷ rest)
contains_heads a zero y rest tuples from to at = absurd (omega arith)
contains_heads a (suc n) y rest tuples from to at = elim (cases_eq a y) [
  | inl e ↦ Contains-append_left (map (λ (zs : List ℕ). a ∷ zs) tuples) (heads (a + 1) n tuples) (y ∷ rest)
      (subst (λ (z : ℕ). Contains (map (λ (zs : List ℕ). a ∷ zs) tuples) (z ∷ rest)) e (contains_map (λ (zs : List ℕ). a ∷ zs) tuples rest at))
  | inr other ↦ Contains-append_right (map (λ (zs : List ℕ). a ∷ zs) tuples) (heads (a + 1) n tuples) (y ∷ rest)
      (contains_heads (a + 1) n y rest tuples (omega (arith, other)) (omega arith) at)
]

-- each tuple is listed
pub tuple_listed : (q m : ℕ) (xs : List ℕ) → length xs ≡ m → All (λ y. y < q) xs → Contains (all_tuples q m) xs
tuple_listed q zero [] long below = contains_first [] [] [] refl
tuple_listed q zero (y ∷ rest) long below = absurd (omega (arith, long))
tuple_listed q (suc m) [] long below = absurd (omega (arith, long))
tuple_listed q (suc m) (y ∷ rest) long below =
    contains_heads 0 q y rest (all_tuples q m) (omega arith) (omega (arith, All-head (λ z. z < q) y rest below))
    (tuple_listed q m rest (omega (arith, long)) (All-tail (λ z. z < q) y rest below))

abbrev IsListable : ℕ → ℕ → List ℕ → Type 0
IsListable q m xs = (length xs ≡ m) × All (λ y. y < q) xs

heads_listable : (q m a n : ℕ) (tuples : List (List ℕ)) → a + n ≤ q → All (IsListable q m) tuples → All (IsListable q (suc m)) (heads a n tuples)
heads_listable q m a zero tuples within all = All-nil (IsListable q (suc m))
heads_listable q m a (suc n) tuples within all =
    All-append (IsListable q (suc m)) (map (λ (rest : List ℕ). a ∷ rest) tuples) (heads (a + 1) n tuples)
    (All-map (IsListable q (suc m)) (λ (rest : List ℕ). a ∷ rest) tuples
    (All-weaker (IsListable q m) (λ rest. IsListable q (suc m) (a ∷ rest))
    (λ rest is. (ap suc is.0, All-cons (λ y. y < q) a rest (omega arith) is.1)) tuples all))
    (heads_listable q m (a + 1) n tuples (omega arith) all)

-- each list that is listed is a tuple
pub listed_tuple : (q m : ℕ) → All (IsListable q m) (all_tuples q m)
listed_tuple q zero = All-cons (IsListable q 0) [] [] (refl, All-nil (λ y. y < q)) (All-nil (IsListable q 0))
listed_tuple q (suc m) = heads_listable q m 0 q (all_tuples q m) (omega arith) (listed_tuple q m)

-- a lesser first colour comes before, and with equal first colours the others decide
less_first : (x y : ℕ) (xs ys : List ℕ) → x < y → IsBefore (x ∷ xs) (y ∷ ys)
less_first x y xs ys lt = ap (λ b. ordering_then (cond b Less (cond (x == y) Equal Greater)) (slice_cmp nat_cmp xs ys)) (lt-ltb x y lt)

same_first : (x : ℕ) (xs ys : List ℕ) → IsBefore xs ys → IsBefore (x ∷ xs) (x ∷ ys)
same_first x xs ys e =
    ap (λ b. ordering_then (cond b Less (cond (x == x) Equal Greater)) (slice_cmp nat_cmp xs ys)) (le-ltb x x (omega arith))
    ∙ (ap (λ b. ordering_then (cond b Equal Greater) (slice_cmp nat_cmp xs ys)) (eq-eqb x x refl) ∙ e)

-- each list comes before all later ones
abbrev pub Rises : List (List ℕ) → Type 0
Rises [] = Unit {0}
Rises (x ∷ xs) = All (IsBefore x) xs × Rises xs

rises_append : (xs ys : List (List ℕ)) → Rises xs → Rises ys → All (λ x. All (IsBefore x) ys) xs → Rises (xs ++ ys)
rises_append [] ys up also apart = also
rises_append (x ∷ xs) ys up also apart = (
  All-append (IsBefore x) xs ys up.0 (All-head (λ z. All (IsBefore z) ys) x xs apart),
  rises_append xs ys up.1 also (All-tail (λ z. All (IsBefore z) ys) x xs apart),
)

rises_head : (a : ℕ) (xs : List (List ℕ)) → Rises xs → Rises (map (λ (rest : List ℕ). a ∷ rest) xs)
rises_head a [] up = tt
rises_head a (x ∷ xs) up = (
  All-map (IsBefore (a ∷ x)) (λ (rest : List ℕ). a ∷ rest) xs (All-weaker (IsBefore x) (λ y. IsBefore (a ∷ x) (a ∷ y)) (λ y e. same_first a x y e) xs up.0),
  rises_head a xs up.1,
)

heads_later : (a b n : ℕ) (rest : List ℕ) (tuples : List (List ℕ)) → a < b → All (IsBefore (a ∷ rest)) (heads b n tuples)
heads_later a b zero rest tuples lt = All-nil (IsBefore (a ∷ rest))
heads_later a b (suc n) rest tuples lt =
    All-append (IsBefore (a ∷ rest)) (map (λ (zs : List ℕ). b ∷ zs) tuples) (heads (b + 1) n tuples)
    (All-map (IsBefore (a ∷ rest)) (λ (zs : List ℕ). b ∷ zs) tuples (λ k d at. less_first a b rest (get_or tuples k d) lt))
    (heads_later a (b + 1) n rest tuples (omega arith))

heads_rise : (a n : ℕ) (tuples : List (List ℕ)) → Rises tuples → Rises (heads a n tuples)
heads_rise a zero tuples up = tt
heads_rise a (suc n) tuples up =
    rises_append (map (λ (rest : List ℕ). a ∷ rest) tuples) (heads (a + 1) n tuples) (rises_head a tuples up) (heads_rise (a + 1) n tuples up)
    (All-map (λ x. All (IsBefore x) (heads (a + 1) n tuples)) (λ (rest : List ℕ). a ∷ rest) tuples
    (λ k d at. heads_later a (a + 1) n (get_or tuples k d) tuples (omega arith)))

tuples_rise : (q m : ℕ) → Rises (all_tuples q m)
tuples_rise q zero = (All-nil (IsBefore []), tt)
tuples_rise q (suc m) = heads_rise 0 q (all_tuples q m) (tuples_rise q m)

pairs : (xs : List (List ℕ)) → Rises xs → AllPairs IsBefore xs
pairs [] up = λ i j d lt within. absurd (omega (arith, within))
pairs (x ∷ xs) up = AllPairs-cons IsBefore x xs up.0 (pairs xs up.1)

pub fixed_in_order : (t : Table) (b : Word) → AllPairs IsBefore (fixed_points t b)
fixed_in_order t b = AllPairs-filter IsBefore (is_fixed t b) (all_tuples t.order b.strands)
    (pairs (all_tuples t.order b.strands) (tuples_rise t.order b.strands))

pub listed_fixed : (t : Table) (b : Word) (xs : List ℕ) → Contains (fixed_points t b) xs → IsFixedPoint t b xs
listed_fixed t b xs at = record {
  tuple = All-contains (IsTuple t b.strands) (fixed_points t b) xs
      (All-filter (is_fixed t b) (IsTuple t b.strands) (all_tuples t.order b.strands) (listed_tuple t.order b.strands)) at;
  fixed = (bytes_eq-Decides (action t b.letters xs) xs).0 (All-contains (λ ys. is_fixed t b ys ≡ true) (fixed_points t b) xs
      (filter_passes (is_fixed t b) (all_tuples t.order b.strands)) at);
}

pub fixed_listed : (t : Table) (b : Word) (xs : List ℕ) → IsFixedPoint t b xs → Contains (fixed_points t b) xs
fixed_listed t b xs point =
    contains_filter (is_fixed t b) xs (all_tuples t.order b.strands) ((bytes_eq-Decides (action t b.letters xs) xs).1 point.fixed)
    (tuple_listed t.order b.strands xs point.tuple.0 point.tuple.1)
