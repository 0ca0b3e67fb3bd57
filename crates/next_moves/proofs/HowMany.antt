-- How many diagrams there are of a kind.
use Rattle.std.proofs.Common.{◌≡◌, ◌≢◌, ◌<◌, ◌≤◌, ◌∷◌, ◌∙◌, [], ℕ, zero, suc, List, true, eqb, Any, length, get_or, arith, sym, refl, ap}
use Rattle.std.specs.List.{AllPairs, Contains}
use Rattle.std.proofs.lemmas.Bool.{eqb-true, ne_eqb}
use Rattle.std.proofs.lemmas.List.{get_or_default}
use Rattle.std.proofs.lemmas.List.Folds.{Any-from_list_any}
use Rattle.std.proofs.lemmas.Map.Keys.{IsDistinct-from_apart}
use Rattle.std.proofs.lemmas.Map.Steps.{length-le_from_distinct_below}
use Rattle.grid_core.specs.Diagram.{Diagram}
use Rattle.next_moves.specs.Reach.{AreMembers, HasMembers, HasMoreMembers}

-- the places at which the elements of one list stand in another
record Places {A : Type 0} (z : A) (xs ys : List A) : Type 0 where
  places : List ℕ
  long : length places ≡ length ys
  below : (k : ℕ) → k < length places → get_or places k 0 < length xs
  stands : (k : ℕ) → k < length places → get_or xs (get_or places k 0) z ≡ get_or ys k z

places_of : {A : Type 0} (z : A) (xs ys : List A) → ((k : ℕ) → k < length ys → Contains xs (get_or ys k z)) → Places z xs ys
places_of z xs [] all = record { places = []; long = refl; below = λ k lt. absurd (omega (arith, lt)); stands = λ k lt. absurd (omega (arith, lt)) }
places_of {A} z xs (y ∷ ys) all = by (all 0 (omega arith)) (places_of z xs ys (λ k lt. all (suc k) (omega (arith, lt))))
  where
    by : Contains xs y → Places z xs ys → Places z xs (y ∷ ys)
    by here rest = record { places = here.0 ∷ rest.places; long = ap suc rest.long; below = below; stands = stands }
      where
        below : (k : ℕ) → k < length (here.0 ∷ rest.places) → get_or (here.0 ∷ rest.places) k 0 < length xs
        below zero lt = here.1
        below (suc k) lt = rest.below k (omega (arith, lt))

        stands : (k : ℕ) → k < length (here.0 ∷ rest.places) → get_or xs (get_or (here.0 ∷ rest.places) k 0) z ≡ get_or (y ∷ ys) k z
        stands zero lt = get_or_default xs here.0 z y here.1 ∙ here.2
        stands (suc k) lt = rest.stands k (omega (arith, lt))

-- numbers below n, no two of them equal, are at most n
below_le : (xs : List ℕ) (n : ℕ) → ((i j d : ℕ) → i < j → j < length xs → get_or xs i d ≢ get_or xs j d) → ((k : ℕ) → k < length xs → get_or xs k 0 < n)
    → length xs ≤ n
below_le xs n apart below =
    length-le_from_distinct_below xs n (IsDistinct-from_apart eqb xs (λ i j d less lt. ne_eqb (get_or xs i d) (get_or xs j d) (apart i j d less lt)))
    (λ q found. of_any q (Any-from_list_any (eqb q) xs found))
  where
    of_any : (q : ℕ) → Any (λ x. eqb q x ≡ true) xs → q < n
    of_any q any =
        let same : q ≡ any.1 = eqb-true q any.1 any.4 in
        omega (arith, same, get_or_default xs any.0 0 any.1 any.2, any.3, below any.0 any.2)

-- different elements of a list are at most as many as it has
different_le : {A : Type 0} (z : A) (xs ys : List A) → AllPairs (λ d e. d ≢ e) ys → ((k : ℕ) → k < length ys → Contains xs (get_or ys k z))
    → length ys ≤ length xs
different_le z xs ys different all =
    let p = places_of z xs ys all in
    omega (
      arith,
      p.long,
      below_le p.places (length xs)
          (λ i j d less lt same.
          let li : i < length p.places = omega (arith, less, lt) in
          let at : get_or p.places i 0 ≡ get_or p.places j 0 = get_or_default p.places i 0 d li ∙ same ∙ get_or_default p.places j d 0 lt in
          different i j z less (omega (arith, p.long, lt)) (sym (p.stands i li) ∙ ap (λ (k : ℕ). get_or xs k z) at ∙ p.stands j lt)) p.below,
    )

abbrev blank : Diagram
blank = record { x = []; o = [] }

pub more_excluded : (P : Diagram → Type 0) (k m : ℕ) → HasMembers P k → HasMoreMembers P m → m < k
more_excluded P k m one more =
    let known = different_le blank one.0 more.0 more.2 (λ i lt. (one.2.exactly (get_or more.0 i blank)).0 (more.3 i blank lt)) in
    omega (arith, known, one.1, more.1)

members_le : (P : Diagram → Type 0) (xs ys : List Diagram) → AreMembers P xs → AreMembers P ys → length ys ≤ length xs
members_le P xs ys one two =
    different_le blank xs ys two.different (λ i lt. (one.exactly (get_or ys i blank)).0
    ((two.exactly (get_or ys i blank)).1 (i, lt, get_or_default ys i (get_or ys i blank) blank lt)))

pub one_number : (P : Diagram → Type 0) (k l : ℕ) → HasMembers P k → HasMembers P l → k ≡ l
one_number P k l one two = omega (arith, members_le P one.0 two.0 one.2 two.2, members_le P two.0 one.0 two.2 one.2, one.1, two.1)
