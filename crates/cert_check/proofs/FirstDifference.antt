-- The first difference of two lists: they agree before it, and at it their elements differ or one list has ended.
use Rattle.std.proofs.Common.{◌≡◌, ◌≢◌, ◌+◌, ◌<◌, ◌≤◌, ◌∙◌, inl, inr, ◌∷◌, [], ◌++◌, ℕ, zero, suc, Bool, true, false, List, length, min}
use Rattle.std.proofs.Common.{Option, Some, None, take, slice_get, get_or, map, refl, sym, ap, ap₂, subst, cond, add-one, arith}
use Rattle.std.specs.Option.{option_map}
use Rattle.std.proofs.lemmas.Slice.Eq.{bytes_eq-Decides}
use Rattle.std.proofs.lemmas.Bool.{cases_lt}
use Rattle.std.proofs.lemmas.List.{length-map, take-map, map_more, take_all}
use Rattle.std.proofs.lemmas.Option.{slice_get-map, slice_get_read, slice_get_past, slice_get-get_or}
use Rattle.arrayvec.specs.ArrayVec.{ArrayVec}
use Rattle.colour_list.specs.Listing.{is_same, lists_of}
use Rattle.cert_check.specs.Cause.{first_difference}
use Rattle.colour_list.proofs.Times.{true_same}

same_as_itself : (a : List ℕ) → is_same a a ≡ true
same_as_itself a = (bytes_eq-Decides a a).1 refl

abbrev next : Option ℕ → Option ℕ
next o = option_map (λ n. n + 1) o

-- equal lists have none
pub none_of_equal : (one : List (List ℕ)) → first_difference one one ≡ None
none_of_equal [] = refl
none_of_equal (a ∷ one) = rw (same_as_itself a) (ap (λ o. next o) (none_of_equal one))

next_none : (o : Option ℕ) → next o ≡ None → o ≡ None
next_none None h = refl
next_none (Some n) h = absurd cc

-- and lists that have none are equal
pub equal_of_none : (one two : List (List ℕ)) → first_difference one two ≡ None → one ≡ two
equal_of_none [] [] h = refl
equal_of_none [] (b ∷ two) h = absurd cc
equal_of_none (a ∷ one) [] h = absurd cc
equal_of_none (a ∷ one) (b ∷ two) h = by (is_same a b) refl h (λ none. equal_of_none one two none)
  where
    by : (t : Bool) → is_same a b ≡ t → cond t (next (first_difference one two)) (Some 0) ≡ None → (first_difference one two ≡ None → one ≡ two)
        → ◌≡◌ {A = List (List ℕ)} (a ∷ one) (b ∷ two)
    by true same h rest = ap₂ (λ (x : List ℕ) (xs : List (List ℕ)). x ∷ xs) (true_same a b same) (rest (next_none (first_difference one two) h))
    by false same h rest = absurd cc

-- what lists have in common before the place, and have not at it
pub record DifferAt (one two : List (List ℕ)) (place : ℕ) : Type 0 where
  pub before : take place one ≡ take place two
  pub here : slice_get one place ≢ slice_get two place

next_some : (o : Option ℕ) (place : ℕ) → next o ≡ Some place → (n : ℕ) × ((o ≡ Some n) × (place ≡ suc n))
next_some None place h = absurd cc
next_some (Some n) place h = (n, (refl, sym (let same : n + 1 ≡ place = cc in sym (add-one n) ∙ same)))

differ_at_zero : (one two : List (List ℕ)) (place : ℕ) → ◌≡◌ {A = Option ℕ} (Some 0) (Some place) → slice_get one 0 ≢ slice_get two 0 → DifferAt one two place
differ_at_zero one two place at differ =
    let zero_is : 0 ≡ place = cc in
    subst (λ (n : ℕ). DifferAt one two n) zero_is (record { before = refl; here = differ })

-- two lists differ at their first difference, and agree before it
pub differ_of_some : (one two : List (List ℕ)) (place : ℕ) → first_difference one two ≡ Some place → DifferAt one two place
differ_of_some [] [] place h = absurd cc
differ_of_some [] (b ∷ two) place h = differ_at_zero [] (b ∷ two) place h (λ same. let no : ◌≡◌ {A = Option (List ℕ)} None (Some b) = same in cc)
differ_of_some (a ∷ one) [] place h = differ_at_zero (a ∷ one) [] place h (λ same. let no : ◌≡◌ {A = Option (List ℕ)} (Some a) None = same in cc)
differ_of_some (a ∷ one) (b ∷ two) place h = by (is_same a b) refl h (λ n some. differ_of_some one two n some)
  where
    by : (t : Bool) → is_same a b ≡ t → cond t (next (first_difference one two)) (Some 0) ≡ Some place
        → ((n : ℕ) → first_difference one two ≡ Some n → DifferAt one two n) → DifferAt (a ∷ one) (b ∷ two) place
    by true same h rest =
        let later = next_some (first_difference one two) place h in
        let on = rest later.0 later.1.0 in
        subst (λ (n : ℕ). DifferAt (a ∷ one) (b ∷ two) n) (sym later.1.1) (record {
          before = ap₂ (λ (x : List ℕ) (xs : List (List ℕ)). x ∷ xs) (true_same a b same) on.before;
          here = on.here;
        })
    by false same h rest = differ_at_zero (a ∷ one) (b ∷ two) place h (λ heads.
        let elements : ◌≡◌ {A = Option (List ℕ)} (Some a) (Some b) = heads in
        let equal : a ≡ b = cc in
        let no : true ≡ false = sym (same_as_itself a) ∙ ap (λ z. is_same a z) equal ∙ same in
        cc)

-- where two lists agree before a place, and differ at it, it is their first difference
pub some_of_differ : (one two : List (List ℕ)) (place : ℕ) → take place one ≡ take place two → slice_get one place ≢ slice_get two place
    → first_difference one two ≡ Some place
some_of_differ [] [] place before here = absurd (here refl)
some_of_differ [] (b ∷ two) zero before here = refl
some_of_differ [] (b ∷ two) (suc place) before here = let no : ◌≡◌ {A = List (List ℕ)} [] (b ∷ take place two) = before in absurd cc
some_of_differ (a ∷ one) [] zero before here = refl
some_of_differ (a ∷ one) [] (suc place) before here = let no : ◌≡◌ {A = List (List ℕ)} (a ∷ take place one) [] = before in absurd cc
some_of_differ (a ∷ one) (b ∷ two) zero before here = by (is_same a b) refl
  where
    by : (t : Bool) → is_same a b ≡ t → cond t (next (first_difference one two)) (Some 0) ≡ Some 0
    by true same = absurd (here (ap (λ (x : List ℕ). Some x) (true_same a b same)))
    by false same = refl
some_of_differ (a ∷ one) (b ∷ two) (suc place) before here =
    let fronts : ◌≡◌ {A = List (List ℕ)} (a ∷ take place one) (b ∷ take place two) = before in
    let heads : a ≡ b = cc in
    let tails : take place one ≡ take place two = cc in
    let same : is_same a b ≡ true = ap (λ z. is_same a z) (sym heads) ∙ same_as_itself a in
    rw same (ap (λ o. next o) (some_of_differ one two place tails here) ∙ ap (λ (n : ℕ). Some n) (add-one place))

-- ---- over colourings, as a pass from the left meets them

-- one more element is the same
pub same_more : (given complete : List (ArrayVec ℕ)) (place : ℕ) (x y : ArrayVec ℕ) → place < length given → place < length complete
    → x ≡ get_or given place x → y ≡ get_or complete place y → is_same x.items y.items ≡ true
    → take place (lists_of given) ≡ take place (lists_of complete) → take (place + 1) (lists_of given) ≡ take (place + 1) (lists_of complete)
same_more given complete place x y in_given in_complete x_is y_is same before =
    let f = λ (c : ArrayVec ℕ). c.items in
    let items : x.items ≡ y.items = true_same x.items y.items same in
    let items_given : x.items ≡ (get_or given place x).items = ap f x_is in
    let items_complete : y.items ≡ (get_or complete place y).items = ap f y_is in
    let given_more : take (place + 1) (map f given) ≡ map f (take place given) ++ (get_or given place x).items ∷ [] =
    take-map f (place + 1) given ∙ map_more f given place x in_given in
    let complete_more : take (place + 1) (map f complete) ≡ map f (take place complete) ++ (get_or complete place y).items ∷ [] =
    take-map f (place + 1) complete ∙ map_more f complete place y in_complete in
    let front_given = take-map f place given in
    let front_complete = take-map f place complete in
    let fronts : map f (take place given) ≡ map f (take place complete) = sym front_given ∙ before ∙ front_complete in
    let lasts : (get_or given place x).items ≡ (get_or complete place y).items = sym items_given ∙ items ∙ items_complete in
    given_more ∙ ap₂ (λ (xs : List (List ℕ)) (z : List ℕ). xs ++ z ∷ []) fronts lasts ∙ sym complete_more

element : (list : List (ArrayVec ℕ)) (place : ℕ) (x : ArrayVec ℕ) → place < length list → x ≡ get_or list place x
    → slice_get (lists_of list) place ≡ Some x.items
element list place x within is =
    slice_get-map (λ (c : ArrayVec ℕ). c.items) list place ∙ ap (λ o. option_map (λ (c : ArrayVec ℕ). c.items) o) (slice_get_read list (length list) place x refl within is)

-- the next element is another
pub differs_here : (given complete : List (ArrayVec ℕ)) (place : ℕ) (x y : ArrayVec ℕ) → place < length given → place < length complete
    → x ≡ get_or given place x → y ≡ get_or complete place y → is_same x.items y.items ≡ false
    → take place (lists_of given) ≡ take place (lists_of complete) → first_difference (lists_of given) (lists_of complete) ≡ Some place
differs_here given complete place x y in_given in_complete x_is y_is other before =
    some_of_differ (lists_of given) (lists_of complete) place before (λ same.
    let elements : ◌≡◌ {A = Option (List ℕ)} (Some x.items) (Some y.items) =
    sym (element given place x in_given x_is) ∙ same ∙ element complete place y in_complete y_is in
    let equal : x.items ≡ y.items = cc in
    let no : true ≡ false = sym (same_as_itself x.items) ∙ ap (λ z. is_same x.items z) equal ∙ other in
    cc)

-- lists that are equally long, and the same up to their end, are equal
pub same_to_the_end : (given complete : List (ArrayVec ℕ)) (place : ℕ) → min (length given) (length complete) ≤ place → length given ≡ length complete
    → take place (lists_of given) ≡ take place (lists_of complete) → first_difference (lists_of given) (lists_of complete) ≡ None
same_to_the_end given complete place ended long before =
    let f = λ (c : ArrayVec ℕ). c.items in
    let all_given : take place (map f given) ≡ map f given = take_all place (map f given) (omega (arith, length-map given f)) in
    let all_complete : take place (map f complete) ≡ map f complete = take_all place (map f complete) (omega (arith, length-map complete f)) in
    let equal : map f given ≡ map f complete = sym all_given ∙ before ∙ all_complete in
    ap (λ z. first_difference z (lists_of complete)) equal ∙ none_of_equal (lists_of complete)

-- a list that has ended, and one that has not
ended_first : (one two : List (List ℕ)) (n : ℕ) → length one ≤ n → n < length two → slice_get one n ≢ slice_get two n
ended_first one two n ended on same =
    let no : ◌≡◌ {A = Option (List ℕ)} None (Some (get_or two n [])) = sym (slice_get_past one n ended) ∙ same ∙ slice_get-get_or two n [] on in
    cc

-- where only one of two lists has ended, they differ there
pub differ_at_the_end : (given complete : List (ArrayVec ℕ)) (most : ℕ) → most ≡ min (length given) (length complete) → length given ≢ length complete
    → take most (lists_of given) ≡ take most (lists_of complete) → first_difference (lists_of given) (lists_of complete) ≡ Some most
differ_at_the_end given complete most is other before =
    let f = λ (c : ArrayVec ℕ). c.items in
    let long_given = length-map given f in
    let long_complete = length-map complete f in
    some_of_differ (map f given) (map f complete) most before (elim (cases_lt (length given) (length complete)) [
      | inl less ↦ ended_first (map f given) (map f complete) most (omega arith) (omega arith)
      | inr more ↦ λ same. ended_first (map f complete) (map f given) most (omega arith) (omega arith) (sym same)
    ])
