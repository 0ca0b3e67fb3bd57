-- The images of all lists of one kind under a bijection, put in order, are the ascending list of all of the other kind.
use Rattle.std.proofs.Common.{◌≡◌, ◌≢◌, ◌∙◌, ◌<◌, ◌+◌, ◌↔◌, ℕ, zero, suc, List, [], ◌∷◌, Bool, true, false, cond, length, get_or, map, All, arith, refl, sym}
use Rattle.std.proofs.Common.{ap, subst, inl, inr}
use Rattle.std.specs.Prelude.{IsSorted, IsPermutation}
use Rattle.std.specs.List.{AllPairs, Contains}
use Rattle.std.specs.Str.{bytes_eq}
use Rattle.std.specs.declared.cmp.Ordering.{Ordering}
use Rattle.std.specs.declared.cmp.Ordering.TheVariants.{Less, Equal, Greater}
use Rattle.std.specs.Cmp.{both_ways}
use Rattle.std.specs.Cmp.Lexicographic.{slice_cmp}
use Rattle.std.specs.Ordering.{nat_cmp, is_lt, is_eq, ordering_reverse}
use Rattle.std.proofs.lemmas.Bool.{true≢false}
use Rattle.std.proofs.lemmas.Cmp.{nat_list_cmp_total, tied_itself}
use Rattle.std.proofs.lemmas.Slice.Eq.{bytes_eq-Decides}
use Rattle.std.proofs.lemmas.List.{length-map, get_or-map}
use Rattle.std.proofs.lemmas.List.Sums.{sum_by-cons}
use Rattle.std.proofs.lemmas.List.Elements.{All-contains}
use Rattle.std.proofs.lemmas.List.Sorted.{sorted_far, ranks_by, Contains-permutation, IsPermutation-sym}
use Rattle.std.proofs.lemmas.Map.Keys.{IsDistinct-IsPermutation}
use Rattle.std.proofs.lemmas.Map.Made.{AllPairs-from_IsDistinct, IsDistinct-from_AllPairs}
use Rattle.std.proofs.lemmas.Map.Text.{is_eq-slice_cmp}
use Rattle.arrayvec.specs.ArrayVec.{ArrayVec}
use Rattle.quandle_core.specs.Colours.{ComesBefore}
use Rattle.quandle_core.specs.Bijection.{IsBijection}
use Rattle.quandle_core.proofs.Lengths.{IsOneOf}
use Rattle.braid_laws.proofs.Listed.{IsBefore, Rises}
use Rattle.colour_list.specs.Listing.{lists_of, is_same, times}

-- ---- where a list stands

-- what stands so often somewhere stands there
found_step : (g x : List ℕ) (xs : List (List ℕ)) → (0 < times g xs → Contains xs g) → 0 < times g (x ∷ xs) → (t : Bool) → is_same g x ≡ t → Contains (x ∷ xs) g
found_step g x xs found some true e = (0, omega arith, sym ((bytes_eq-Decides g x).0 e))
found_step g x xs found some false e =
    let fewer : times g (x ∷ xs) ≡ 0 + times g xs = sum_by-cons (λ y. cond (is_same g y) 1 0) x xs ∙ ap (λ b. cond b 1 0 + times g xs) e in
    let at = found (omega (arith, some, fewer)) in
    (suc at.0, omega (arith, at.1), at.2)

pub found : (g : List ℕ) (xs : List (List ℕ)) → 0 < times g xs → Contains xs g
found g [] some = absurd (omega (arith, some))
found g (x ∷ xs) some = found_step g x xs (found g xs) some (is_same g x) refl

one_at : (g : List ℕ) (xs : List (List ℕ)) (k : ℕ) → k < length xs → get_or xs k g ≡ g → IsOneOf g xs
one_at g [] k lt e = absurd (omega (arith, lt))
one_at g (x ∷ xs) zero lt e = inl (sym e)
one_at g (x ∷ xs) (suc k) lt e = inr (one_at g xs k (omega (arith, lt)) e)

at_one : (g : List ℕ) (xs : List (List ℕ)) → IsOneOf g xs → Contains xs g
at_one g [] one = absurd one
at_one g (x ∷ xs) one = elim one [
  | inl e ↦ (0, omega arith, sym e)
  | inr more ↦ let at = at_one g xs more in (suc at.0, omega (arith, at.1), at.2)
]

-- ---- ascending lists

never_both : (x y : List ℕ) → IsBefore x y → IsBefore y x → ⊥
never_both x y one two =
    let wrong : ◌≡◌ {A = Ordering} Less Equal = sym (nat_list_cmp_total.trans x y x one two) ∙ tied_itself nat_list_cmp_total x in
    absurd cc

rising : (xs : List (List ℕ)) → AllPairs IsBefore xs → Rises xs
rising [] up = tt
rising (x ∷ xs) up = (
  λ k d lt. up zero (suc k) d (omega arith) (omega (arith, lt)),
  rising xs (λ i j d lt within. up (suc i) (suc j) d (omega (arith, lt)) (omega (arith, within))),
)

comes_later : (x g : List ℕ) (xs : List (List ℕ)) → All (IsBefore x) xs → IsOneOf g xs → IsBefore x g
comes_later x g xs all one = All-contains (IsBefore x) xs g all (at_one g xs one)

first_same : (x y : List ℕ) (xs ys : List (List ℕ)) → All (IsBefore x) xs → All (IsBefore y) ys → IsOneOf x (y ∷ ys) → IsOneOf y (x ∷ xs) → x ≡ y
first_same x y xs ys up also here there = elim here [
  | inl e ↦ e
  | inr later ↦ elim there [
    | inl e ↦ sym e
    | inr behind ↦ absurd (never_both x y (comes_later x y xs up behind) (comes_later y x ys also later))
  ]
]

rest_in : (x y g : List ℕ) (xs ys : List (List ℕ)) → x ≡ y → All (IsBefore x) xs → IsOneOf g xs → IsOneOf g (y ∷ ys) → IsOneOf g ys
rest_in x y g xs ys same up one there = elim there [
  | inl e ↦
      let itself : IsBefore x x = subst (IsBefore x) (e ∙ sym same) (comes_later x g xs up one) in
      absurd (never_both x x itself itself)
  | inr more ↦ more
]

-- ascending lists that have the same lists are the same
same_rising : (xs ys : List (List ℕ)) → Rises xs → Rises ys → ((g : List ℕ) → IsOneOf g xs → IsOneOf g ys) → ((g : List ℕ) → IsOneOf g ys → IsOneOf g xs)
    → xs ≡ ys
same_rising [] [] up also into back = refl
same_rising [] (y ∷ ys) up also into back = absurd (back y (inl refl))
same_rising (x ∷ xs) [] up also into back = absurd (into x (inl refl))
same_rising (x ∷ xs) (y ∷ ys) up also into back =
    let e = first_same x y xs ys up.0 also.0 (into x (inl refl)) (back y (inl refl)) in
    ap (λ z. z ∷ xs) e
    ∙ ap (λ (zs : List (List ℕ)). y ∷ zs)
    (same_rising xs ys up.1 also.1 (λ g one. rest_in x y g xs ys e up.0 one (into g (inr one)))
    (λ g one. rest_in y x g ys xs (sym e) also.0 one (back g (inr one))))

-- ---- sorted lists that all differ

less : (x y : List ℕ) → is_lt (slice_cmp nat_cmp y x) ≡ false → (x ≡ y → ⊥) → IsBefore x y
less x y not_after other = by (slice_cmp nat_cmp x y) refl
  where
    by : (o : Ordering) → slice_cmp nat_cmp x y ≡ o → slice_cmp nat_cmp x y ≡ Less
    by Less e = e
    by Equal e = absurd (other ((bytes_eq-Decides x y).0 (sym (is_eq-slice_cmp x y) ∙ ap is_eq e)))
    by Greater e = absurd (true≢false (sym (ap is_lt (nat_list_cmp_total.antisymm y x ∙ ap ordering_reverse e)) ∙ not_after))

abbrev items_of : ArrayVec ℕ → List ℕ
items_of c = c.items

abbrev AreApart : List (List ℕ) → Type 0
AreApart xs = AllPairs (λ x y. x ≢ y) xs

sorted_rises : (items : List (ArrayVec ℕ)) → IsSorted (λ a b. slice_cmp nat_cmp a.items b.items) items → AreApart (lists_of items)
    → AllPairs IsBefore (lists_of items)
sorted_rises items sorted apart = λ i j d lt within.
    let inside : j < length items = omega (arith, within, length-map items items_of) in
    let at_i = get_or-map items_of items i (record { items = d }) d (omega (arith, lt, inside)) in
    let at_j = get_or-map items_of items j (record { items = d }) d inside in
    let far = sorted_far (λ a b. is_lt (slice_cmp nat_cmp a.items b.items)) (ranks_by nat_list_cmp_total items_of) items sorted i j
    (record { items = d }) (omega (arith, lt)) inside in
    less (get_or (lists_of items) i d) (get_or (lists_of items) j d) (rw (at_i, at_j) far) (apart i j d lt within)

flips : (x y : List ℕ) → bytes_eq x y ≡ bytes_eq y x
flips x y = both_ways (bytes_eq x y) (bytes_eq y x)
    (λ e. (bytes_eq-Decides y x).1 (sym ((bytes_eq-Decides x y).0 e))) (λ e. (bytes_eq-Decides x y).1 (sym ((bytes_eq-Decides y x).0 e)))

moved_apart : (xs ys : List (List ℕ)) → IsPermutation xs ys → AreApart xs → AreApart ys
moved_apart xs ys moved apart =
    AllPairs-from_IsDistinct bytes_eq-Decides ys (IsDistinct-IsPermutation bytes_eq flips xs ys moved (IsDistinct-from_AllPairs bytes_eq-Decides xs apart))

-- ---- images

never_before_itself : (xs : List ℕ) → ComesBefore xs xs → ⊥
never_before_itself [] less = less
never_before_itself (x ∷ xs) less = elim less [ inl lt ↦ absurd (omega (arith, lt)) | inr rest ↦ never_before_itself xs rest.1 ]

images_apart : (P : List ℕ → Type 0) (go : List ℕ → List ℕ) (cs : List (List ℕ)) → ((x y : List ℕ) → P x → P y → go x ≡ go y → x ≡ y) → All P cs
    → AllPairs ComesBefore cs → AreApart (map go cs)
images_apart P go cs one all up = λ i j d lt within same.
    let inside : j < length cs = omega (arith, within, length-map cs go) in
    let at_i = get_or-map go cs i d d (omega (arith, lt, inside)) in
    let at_j = get_or-map go cs j d d inside in
    let e = one (get_or cs i d) (get_or cs j d) (all i d (omega (arith, lt, inside))) (all j d inside) (sym at_i ∙ (same ∙ at_j)) in
    never_before_itself (get_or cs j d) (subst (λ (z : List ℕ). ComesBefore z (get_or cs j d)) e (up i j d lt inside))

-- exactly the lists with P, in ascending order
pub record IsAscendingList (P : List ℕ → Type 0) (cs : List (List ℕ)) : Type 0 where
  pub ascending : AllPairs ComesBefore cs
  pub only : All P cs
  pub all : (c : List ℕ) → P c → Contains cs c

-- the images of all lists with P, sorted, are the ascending list of all lists with Q
pub images_in_order : (P Q : List ℕ → Type 0) (go : List ℕ → List ℕ) → IsBijection P Q go → (cs ys : List (List ℕ)) → IsAscendingList P cs
    → AllPairs IsBefore ys → ((y : List ℕ) → Contains ys y ↔ Q y) → (items : List (ArrayVec ℕ)) → IsPermutation (map go cs) (lists_of items)
    → IsSorted (λ a b. slice_cmp nat_cmp a.items b.items) items → lists_of items ≡ ys
images_in_order P Q go b cs ys list up are items moved sorted =
    let apart = moved_apart (map go cs) (lists_of items) moved (images_apart P go cs b.one list.only list.ascending) in
    same_rising (lists_of items) ys (rising (lists_of items) (sorted_rises items sorted apart)) (rising ys up)
    (λ g one. into g (Contains-permutation (lists_of items) (map go cs) g (IsPermutation-sym (map go cs) (lists_of items) moved)
    (at_one g (lists_of items) one)))
    (λ g one. back g ((are g).0 (at_one g ys one)))
  where
    into : (g : List ℕ) → Contains (map go cs) g → IsOneOf g ys
    into g at =
        let inside : at.0 < length cs = omega (arith, at.1, length-map cs go) in
        let c = get_or cs at.0 g in
        let e : go c ≡ g = sym (get_or-map go cs at.0 g g inside) ∙ at.2 in
        let there = (are g).1 (subst Q e (b.into c (list.only at.0 g inside))) in
        one_at g ys there.0 there.1 there.2

    back : (g : List ℕ) → Q g → IsOneOf g (lists_of items)
    back g q =
        let from = b.onto g q in
        let at = list.all from.0 from.1 in
        let image : Contains (map go cs) g = (at.0, omega (arith, at.1, length-map cs go), get_or-map go cs at.0 from.0 g at.1 ∙ (ap go at.2 ∙ from.2)) in
        let there = Contains-permutation (map go cs) (lists_of items) g moved image in
        one_at g (lists_of items) there.0 there.1 there.2
