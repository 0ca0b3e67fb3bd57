-- The list of all lists of n numbers below q has each of them once, in order.
use Rattle.std.proofs.Common.{◌≡◌, ◌<◌, ◌≤◌, ◌+◌, ◌==◌, ◌∙◌, ◌&&◌, inl, ℕ, zero, suc, List, [], ◌∷◌, Bool, true, false, length, map, get_or, refl, sym, ap}
use Rattle.std.proofs.Common.{arith}
use Rattle.std.specs.List.{range_with_len, flat_map, All, AllPairs}
use Rattle.std.proofs.lemmas.Bool.{ne_eqb, eqb-true, eqb-false, eq-eqb}
use Rattle.std.proofs.lemmas.List.Elements.{All-head, All-tail, All-nil, All-append, All-map}
use Rattle.colour_list.specs.Listing.{all_lists}
use Rattle.colour_list.proofs.Counts.{count-map, count_agree, count_no, count-append}
use Rattle.colour_list.specs.Listing.{is_same, times}
use Rattle.quandle_core.specs.Colours.{ComesBefore}
use Rattle.colour_list.proofs.Order.{pairs_append, pairs_heads}

-- each of k heads from a on before each list
abbrev heads : ℕ → ℕ → List (List ℕ) → List (List ℕ)
heads a k xs = flat_map (λ a. map (λ rest. a ∷ rest) xs) (range_with_len a k)

own_head : (b : ℕ) (rest : List ℕ) (xs : List (List ℕ)) → times (b ∷ rest) (map (λ ys. b ∷ ys) xs) ≡ times rest xs
own_head b rest xs =
    count-map (is_same (b ∷ rest)) (λ ys. b ∷ ys) xs
    ∙ count_agree (λ ys. is_same (b ∷ rest) (b ∷ ys)) (is_same rest) (λ ys. ap (λ t. t && is_same rest ys) (eq-eqb b b refl)) xs

other_head : (a b : ℕ) (rest : List ℕ) (xs : List (List ℕ)) → (b ≡ a → ⊥) → times (b ∷ rest) (map (λ ys. a ∷ ys) xs) ≡ 0
other_head a b rest xs apart =
    count-map (is_same (b ∷ rest)) (λ ys. a ∷ ys) xs
    ∙ count_no (λ ys. is_same (b ∷ rest) (a ∷ ys)) (λ ys. ap (λ t. t && is_same rest ys) (ne_eqb b a apart)) xs

heads_step : (a k b : ℕ) (rest : List ℕ) (xs : List (List ℕ))
    → times (b ∷ rest) (heads a (suc k) xs) ≡ times (b ∷ rest) (map (λ ys. a ∷ ys) xs) + times (b ∷ rest) (heads (a + 1) k xs)
heads_step a k b rest xs = count-append (is_same (b ∷ rest)) (map (λ ys. a ∷ ys) xs) (heads (a + 1) k xs)

heads_below : (a k b : ℕ) (rest : List ℕ) (xs : List (List ℕ)) → b < a → times (b ∷ rest) (heads a k xs) ≡ 0
heads_below a zero b rest xs lt = refl
heads_below a (suc k) b rest xs lt =
    let step = heads_step a k b rest xs in
    let here = other_head a b rest xs (λ e. omega arith) in
    let more = heads_below (a + 1) k b rest xs (omega arith) in
    omega arith

once_step : (a k b : ℕ) (rest : List ℕ) (xs : List (List ℕ)) → a ≤ b → (a + 1 ≤ b → times (b ∷ rest) (heads (a + 1) k xs) ≡ times rest xs) → (t : Bool)
    → (a == b) ≡ t → times (b ∷ rest) (heads a (suc k) xs) ≡ times rest xs
once_step a k b rest xs le more true e =
    let same = eqb-true a b e in
    let step = heads_step a k b rest xs in
    let here : times (b ∷ rest) (map (λ ys. a ∷ ys) xs) ≡ times rest xs = ap (λ h. times (b ∷ rest) (map (λ ys. h ∷ ys) xs)) same ∙ own_head b rest xs in
    let after = heads_below (a + 1) k b rest xs (omega arith) in
    omega arith
once_step a k b rest xs le more false e =
    let apart = eqb-false a b e in
    let step = heads_step a k b rest xs in
    let here = other_head a b rest xs (λ h. apart (sym h)) in
    let after = more (omega (arith, apart)) in
    omega arith

heads_once : (a k b : ℕ) (rest : List ℕ) (xs : List (List ℕ)) → a ≤ b → b < a + k → times (b ∷ rest) (heads a k xs) ≡ times rest xs
heads_once a zero b rest xs le lt = absurd (omega arith)
heads_once a (suc k) b rest xs le lt = once_step a k b rest xs le (λ more. heads_once (a + 1) k b rest xs more (omega arith)) (a == b) refl

-- each list of n numbers below q stands there once
pub all_once : (q n : ℕ) (g : List ℕ) → length g ≡ n → All (λ y. y < q) g → times g (all_lists q n) ≡ 1
all_once q zero [] long below = refl
all_once q zero (b ∷ rest) long below = absurd (omega (arith, long))
all_once q (suc n) [] long below = absurd (omega (arith, long))
all_once q (suc n) (b ∷ rest) long below =
    heads_once 0 q b rest (all_lists q n) (omega arith) (omega (arith, All-head (λ y. y < q) b rest below))
    ∙ all_once q n rest (omega (arith, long)) (All-tail (λ y. y < q) b rest below)

later : (a b k : ℕ) (xs : List (List ℕ)) (x : List ℕ) → a < b → All (ComesBefore (a ∷ x)) (heads b k xs)
later a b zero xs x lt = All-nil (ComesBefore (a ∷ x))
later a b (suc k) xs x lt =
    All-append (ComesBefore (a ∷ x)) (map (λ ys. b ∷ ys) xs) (heads (b + 1) k xs)
    (All-map (ComesBefore (a ∷ x)) (λ ys. b ∷ ys) xs (λ i d at. inl lt))
    (later a (b + 1) k xs x (omega arith))

heads_ascend : (a k : ℕ) (xs : List (List ℕ)) → AllPairs ComesBefore xs → AllPairs ComesBefore (heads a k xs)
heads_ascend a zero xs up = λ i j d lt within. absurd (omega (arith, within))
heads_ascend a (suc k) xs up =
    pairs_append ComesBefore (map (λ ys. a ∷ ys) xs) (heads (a + 1) k xs) (pairs_heads a xs up) (heads_ascend (a + 1) k xs up)
    (All-map (λ x. All (ComesBefore x) (heads (a + 1) k xs)) (λ ys. a ∷ ys) xs (λ i d at. later a (a + 1) k xs (get_or xs i d) (omega arith)))

-- the list is in lexicographic order
pub all_ascend : (q n : ℕ) → AllPairs ComesBefore (all_lists q n)
all_ascend q zero = λ i j d lt within. absurd (omega (arith, lt, within))
all_ascend q (suc n) = heads_ascend 0 q (all_lists q n) (all_ascend q n)
