-- Edits of a level, list by list.
use Rattle.std.proofs.Common.{◌≡◌, ◌<◌, ◌≤◌, ◌+◌, ◌++◌, ◌∙◌, ℕ, List, [], ◌∷◌, Bool, true, false, length, map, take, drop, get_or, set, sym, ap, subst, arith}
use Rattle.std.proofs.Common.{append_assoc, append-nil}
use Rattle.std.specs.List.{flat_map, filter, All, range_with_len}
use Rattle.std.proofs.lemmas.List.{map-append, length-map, flat_map_more, get_or-append_right, get_or-drop, length-take, length-drop, length-append, take_more}
use Rattle.std.proofs.lemmas.List.{take_all, drop_all, get_or_default}
use Rattle.std.proofs.lemmas.List.Edits.{map_over_more}
use Rattle.std.proofs.lemmas.List.Filters.{FiltersInPlace, FiltersInPlace-more_no, FiltersInPlace-more_set, FiltersInPlace-more_here, FiltersInPlace-all}
use Rattle.std.proofs.lemmas.List.FromFn.{map-range_with_len_more}
use Rattle.arrayvec.specs.ArrayVec.{ArrayVec}
use Rattle.colour_list.specs.Listing.{lists_of}

-- one list more behind others
pub pushed : (h : ℕ → List ℕ) (start before after : List (List ℕ)) (a : ℕ) (x : List ℕ) → after ≡ before ++ x ∷ [] → x ≡ h a
    → before ≡ start ++ map h (range_with_len 0 a) → after ≡ start ++ map h (range_with_len 0 (a + 1))
pushed h start before after a x is x_is so_far =
    is
    ∙ (ap (λ (xs : List (List ℕ)). xs ++ x ∷ []) so_far
    ∙ (ap (λ (y : List ℕ). (start ++ map h (range_with_len 0 a)) ++ y ∷ []) x_is
    ∙ (append_assoc start (map h (range_with_len 0 a)) (h a ∷ [])
    ∙ ap (λ (xs : List (List ℕ)). start ++ xs) (sym (map-range_with_len_more h 0 a a (omega arith))))))

-- the lists of one list more
pub opened_next : (s : List ℕ → List (List ℕ)) (level before after : List (List ℕ)) (i : ℕ) (x : List ℕ) → i < length level → x ≡ get_or level i []
    → after ≡ before ++ s x → before ≡ flat_map s (take i level) → after ≡ flat_map s (take (i + 1) level)
opened_next s level before after i x lt is after_is so_far =
    after_is
    ∙ (ap (λ (xs : List (List ℕ)). xs ++ s x) so_far
    ∙ (flat_map_more s [] (take i level) x
    ∙ (ap (λ (h : List ℕ). flat_map s (take i level ++ h ∷ [])) is ∙ ap (flat_map s) (sym (take_more level i [] lt)))))

-- the lists that a map in place has not reached
not_reached : (u : List ℕ → List ℕ) (xs ys : List (List ℕ)) (i : ℕ) (p : List ℕ) → i < length xs → ys ≡ map u (take i xs) ++ drop i xs
    → get_or ys i p ≡ get_or xs i p
not_reached u xs ys i p lt is =
    let front : length (map u (take i xs)) ≡ i = length-map (take i xs) u ∙ (length-take i xs ∙ omega arith) in
    ap (λ (zs : List (List ℕ)). get_or zs i p) is
    ∙ (get_or-append_right (map u (take i xs)) (drop i xs) i i p front (omega arith)
    ∙ (get_or-drop i xs _ p ∙ ap (λ (k : ℕ). get_or xs k p) (omega arith)))

pub same_length : (u : List ℕ → List ℕ) (xs ys : List (List ℕ)) (i : ℕ) → ys ≡ map u (take i xs) ++ drop i xs → length ys ≡ length xs
same_length u xs ys i is =
    let whole = ap length is in
    let parts = length-append (map u (take i xs)) (drop i xs) in
    let mapped = length-map (take i xs) u in
    let front = length-take i xs in
    let rest = length-drop i xs in
    omega arith

-- what holds of each list at first holds of the next one
pub mapped_all : (P : List ℕ → Type 0) (u : List ℕ → List ℕ) (xs ys : List (List ℕ)) (i : ℕ) (x : List ℕ) → All P xs → i < length xs
    → ys ≡ map u (take i xs) ++ drop i xs → x ≡ get_or ys i x → P x
mapped_all P u xs ys i x all lt so_far is = subst P (sym (is ∙ not_reached u xs ys i x lt so_far)) (all i x lt)

-- the next list of a map in place
pub mapped_next : (u : List ℕ → List ℕ) (xs ys : List (List ℕ)) (i : ℕ) (x new : List ℕ) → i < length xs → ys ≡ map u (take i xs) ++ drop i xs
    → x ≡ get_or ys i x → new ≡ u x → set ys i new ≡ map u (take (i + 1) xs) ++ drop (i + 1) xs
mapped_next u xs ys i x new lt so_far is new_is = ap (set ys i) new_is ∙ map_over_more u xs ys i x lt so_far is

pub mapped_whole : (u : List ℕ → List ℕ) (xs ys : List (List ℕ)) (i : ℕ) → length xs ≤ i → ys ≡ map u (take i xs) ++ drop i xs → ys ≡ map u xs
mapped_whole u xs ys i le is =
    is ∙ (ap (λ (zs : List (List ℕ)). map u zs ++ drop i xs) (take_all i xs le)
    ∙ (ap (λ (zs : List (List ℕ)). map u xs ++ zs) (drop_all i xs le) ∙ append-nil (map u xs)))

-- what holds of each list at first holds of the next one that a filter in place reads
pub kept_all : (P : List ℕ → Type 0) (p : List ℕ → Bool) (xs ys : List (List ℕ)) (k i : ℕ) (x : List ℕ) → All P xs → FiltersInPlace p xs ys k i → i < length xs
    → x ≡ get_or ys i x → P x
kept_all P p xs ys k i x all filters lt is =
    let here : i + 0 ≡ i = omega arith in
    let same : get_or ys (i + 0) x ≡ get_or xs (i + 0) x = sym (get_or-drop i ys 0 x)
    ∙ (ap (λ (zs : List (List ℕ)). get_or zs 0 x) filters.rest ∙ get_or-drop i xs 0 x) in
    subst P (sym (is ∙ (ap (λ (j : ℕ). get_or ys j x) (sym here) ∙ (same ∙ ap (λ (j : ℕ). get_or xs j x) here)))) (all i x lt)

pub kept_next : (p : List ℕ → Bool) (xs ys : List (List ℕ)) (k i : ℕ) (x copy : List ℕ) → FiltersInPlace p xs ys k i → i < length xs → x ≡ get_or ys i x
    → p x ≡ true → copy ≡ x → FiltersInPlace p xs (set ys k copy) (k + 1) (i + 1)
kept_next p xs ys k i x copy filters lt is passes same =
    let long : length ys ≡ length xs = filters.long in
    subst (λ (y : List ℕ). FiltersInPlace p xs (set ys k y) (k + 1) (i + 1)) (sym same) (FiltersInPlace-more_set {x = x} filters (omega arith) passes is)

-- a list kept that has its place already
pub kept_here : (p : List ℕ → Bool) (xs ys : List (List ℕ)) (k i : ℕ) (x : List ℕ) → FiltersInPlace p xs ys k i → i < length xs → x ≡ get_or ys i x
    → p x ≡ true → k ≡ i → FiltersInPlace p xs ys (k + 1) (i + 1)
kept_here p xs ys k i x filters lt is passes same =
    let long : length ys ≡ length xs = filters.long in
    FiltersInPlace-more_here {x = x} filters (omega arith) passes is same

-- a list read again
pub read_again : (ys : List (List ℕ)) (i : ℕ) (x y : List ℕ) → i < length ys → x ≡ get_or ys i x → y ≡ get_or ys i y → y ≡ x
read_again ys i x y lt x_is y_is = y_is ∙ (get_or_default ys i y x lt ∙ sym x_is)

pub left_next : (p : List ℕ → Bool) (xs ys : List (List ℕ)) (k i : ℕ) (x : List ℕ) → FiltersInPlace p xs ys k i → i < length xs → x ≡ get_or ys i x
    → p x ≡ false → FiltersInPlace p xs ys k (i + 1)
left_next p xs ys k i x filters lt is fails =
    let long : length ys ≡ length xs = filters.long in
    FiltersInPlace-more_no {x = x} filters (omega arith) fails is

pub kept_whole : (p : List ℕ → Bool) (xs ys after : List (List ℕ)) (k i : ℕ) → FiltersInPlace p xs ys k i → length xs ≤ i → after ≡ take k ys
    → after ≡ filter p xs
kept_whole p xs ys after k i filters le is = is ∙ FiltersInPlace-all filters le

-- the next list, cut
abbrev items_of : ArrayVec ℕ → List ℕ
items_of c = c.items

pub cut_next : (u : List ℕ → List ℕ) (level : List (List ℕ)) (before after : List (ArrayVec ℕ)) (i : ℕ) (x : ArrayVec ℕ) (h : List ℕ) → i < length level
    → h ≡ get_or level i [] → x.items ≡ u h → after ≡ before ++ x ∷ [] → lists_of before ≡ map u (take i level) → lists_of after ≡ map u (take (i + 1) level)
cut_next u level before after i x h lt h_is x_is is so_far =
    ap lists_of is
    ∙ (map-append items_of before (x ∷ [])
    ∙ (ap (λ (xs : List (List ℕ)). xs ++ x.items ∷ []) so_far
    ∙ (ap (λ (y : List ℕ). map u (take i level) ++ y ∷ []) (x_is ∙ ap u h_is)
    ∙ (sym (map-append u (take i level) (get_or level i [] ∷ [])) ∙ ap (map u) (sym (take_more level i [] lt))))))
