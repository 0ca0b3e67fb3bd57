-- How often each number comes, when one more comes.
use Rattle.std.proofs.Common.{◌≡◌, ◌≢◌, ◌∙◌, ◌<◌, ◌≤◌, ◌+◌, ◌++◌, ◌==◌, ℕ, zero, suc, List, [], ◌∷◌, length, map, cond, ap, ap₂, sym, refl, arith}
use Rattle.std.proofs.Common.{inl, inr, get_or}
use Rattle.std.specs.Prelude.{Bool, true, false, slice_index, slice_set, count_by}
use Rattle.std.specs.List.{range_with_len}
use Rattle.std.proofs.lemmas.Bool.{cases_eq, cond-true, cond-false, eq-eqb, ne_eqb}
use Rattle.std.proofs.lemmas.List.FromFn.{get_or-map-range_with_len, length-map-range_with_len}
use Rattle.std.proofs.Math.ListN.{length-set}
use Rattle.std.proofs.Common.{get_or-set_other, get_or-set_same}
use Rattle.std.proofs.Common.{filter, All, length-append, take, subst, add-one}
use Rattle.std.proofs.lemmas.List.Sums.{length-filter, count_by-le-length}
use Rattle.std.proofs.lemmas.List.Elements.{filter-append}
use Rattle.std.proofs.Math.Seq.{take-suc}
use Rattle.grid_core.specs.Diagram.{Diagram}
use Rattle.quandle_core.specs.Quandle.{Table}
use Rattle.colour_rows.specs.Colouring.{IsColouring}
use Rattle.colour_list.specs.Listing.{colourings}
use Rattle.quandle_core.proofs.Lengths.{IsOneOf}
use Rattle.colour_laws.proofs.Listings.{listing}
use Rattle.colour_laws.proofs.ByPlaces.{same_at}

-- one more of weight v
pub one_more : (f g : ℕ → ℕ) (k v : ℕ) → v < k → g v ≡ f v + 1 → ((u : ℕ) → u ≢ v → g u ≡ f u)
    → slice_set (map f (range_with_len 0 k)) v (slice_index (map f (range_with_len 0 k)) v + 1) ≡ map g (range_with_len 0 k)
one_more f g k v lt here others =
    let long = length-map-range_with_len f 0 k in
    let long' = length-map-range_with_len g 0 k in
    let value : slice_index (map f (range_with_len 0 k)) v ≡ f v = get_or-map-range_with_len f 0 k v v 0 lt (omega arith) in
    same_at (slice_set (map f (range_with_len 0 k)) v (slice_index (map f (range_with_len 0 k)) v + 1)) (map g (range_with_len 0 k))
    (length-set (map f (range_with_len 0 k)) v (slice_index (map f (range_with_len 0 k)) v + 1) ∙ (long ∙ sym long'))
    (λ u below.
    let lu : u < k = omega (arith, below, length-set (map f (range_with_len 0 k)) v (slice_index (map f (range_with_len 0 k)) v + 1), long) in
    let at : slice_index (map g (range_with_len 0 k)) u ≡ g u = get_or-map-range_with_len g 0 k u u 0 lu (omega arith) in
    elim (cases_eq u v) [
      | inl e ↦
          ap (λ i. slice_index (slice_set (map f (range_with_len 0 k)) v (slice_index (map f (range_with_len 0 k)) v + 1)) i) e
          ∙ (get_or-set_same (map f (range_with_len 0 k)) v (slice_index (map f (range_with_len 0 k)) v + 1) 0 (omega (arith, lt, long))
          ∙ (ap (λ n. n + 1) value ∙ (sym here ∙ (sym (ap g e) ∙ sym at))))
      | inr n ↦
          get_or-set_other (map f (range_with_len 0 k)) v u (slice_index (map f (range_with_len 0 k)) v + 1) 0 n
          ∙ (get_or-map-range_with_len f 0 k u u 0 lu (omega arith) ∙ (sym (others u n) ∙ sym at))
    ])

pub count_push : {X : Type 0} (p : X → Bool) (xs : List X) (x : X) → count_by p (xs ++ x ∷ []) ≡ count_by p xs + cond (p x) 1 0
count_push {X} p xs x =
    sym (length-filter p (xs ++ x ∷ [])) ∙ (ap length (filter-append p xs (x ∷ [])) ∙ (length-append (filter p xs) (filter p (x ∷ []))
    ∙ ap₂ (λ m n. m + n) (length-filter p xs) (last (p x))))
  where
    last : (b : Bool) → length (cond b (x ∷ []) []) ≡ cond b 1 0
    last true = refl
    last false = refl

-- how many items have each weight, when one more item comes
pub counted_more : {X : Type 0} (weigh : X → ℕ) (xs : List X) (x : X) (k : ℕ) → weigh x < k
    → slice_set (map (λ v. count_by (λ c. weigh c == v) xs) (range_with_len 0 k)) (weigh x)
    (slice_index (map (λ v. count_by (λ c. weigh c == v) xs) (range_with_len 0 k)) (weigh x) + 1)
    ≡ map (λ v. count_by (λ c. weigh c == v) (xs ++ x ∷ [])) (range_with_len 0 k)
counted_more {X} weigh xs x k lt =
    one_more (λ v. count_by (λ c. weigh c == v) xs) (λ v. count_by (λ c. weigh c == v) (xs ++ x ∷ [])) k (weigh x) lt
    (count_push (λ c. weigh c == weigh x) xs x ∙ ap (λ n. count_by (λ c. weigh c == weigh x) xs + n)
    (cond-true (weigh x == weigh x) 1 0 (eq-eqb (weigh x) (weigh x) refl)))
    (λ u n. count_push (λ c. weigh c == u) xs x
    ∙ (ap (λ m. count_by (λ c. weigh c == u) xs + m) (cond-false (weigh x == u) 1 0 (ne_eqb (weigh x) u (λ e. n (sym e))))
    ∙ plus_zero (count_by (λ c. weigh c == u) xs)))
  where
    plus_zero : (n : ℕ) → n + 0 ≡ n
    plus_zero n = omega arith

pub counted_next : {X : Type 0} (weigh : X → ℕ) (list : List X) (i : ℕ) (x : X) (k v : ℕ) (counts : List ℕ) → i < length list → x ≡ get_or list i x
    → v ≡ weigh x → v < k
    → counts ≡ map (λ v. count_by (λ c. weigh c == v) (take i list)) (range_with_len 0 k)
    → slice_set counts v (slice_index counts v + 1) ≡ map (λ v. count_by (λ c. weigh c == v) (take (i + 1) list)) (range_with_len 0 k)
counted_next {X} weigh list i x k v counts below at is lt so_far =
    let longer : take (i + 1) list ≡ take i list ++ x ∷ [] = ap (λ (n : ℕ). take n list) (add-one i)
    ∙ (take-suc list i x below ∙ ap (λ y. take i list ++ y ∷ []) (sym at)) in
    ap₂ (λ l u. slice_set l u (slice_index l u + 1)) so_far is
    ∙ (counted_more weigh (take i list) x k (subst (λ (n : ℕ). n < k) is lt)
    ∙ ap (λ l. map (λ v. count_by (λ c. weigh c == v) l) (range_with_len 0 k)) (sym longer))

-- a count is at most the number of items
pub count_small : {X : Type 0} (weigh : X → ℕ) (xs : List X) (k v : ℕ) → v < k
    → slice_index (map (λ v. count_by (λ c. weigh c == v) xs) (range_with_len 0 k)) v < suc (length xs)
count_small {X} weigh xs k v lt =
    let at : slice_index (map (λ v. count_by (λ c. weigh c == v) xs) (range_with_len 0 k)) v ≡ count_by (λ c. weigh c == v) xs =
    get_or-map-range_with_len (λ v. count_by (λ c. weigh c == v) xs) 0 k v v 0 lt (omega arith) in
    omega (arith, at, count_by-le-length (λ c. weigh c == v) xs)

-- items of the complete list are colourings
one_of : {X : Type 0} (items : X → List ℕ) (xs : List X) (i : ℕ) (d : X) → i < length xs → IsOneOf (items (get_or xs i d)) (map items xs)
one_of items [] i d lt = absurd (omega (arith, lt))
one_of items (x ∷ xs) zero d lt = inl refl
one_of items (x ∷ xs) (suc i) d lt = inr (one_of items xs i d (omega (arith, lt)))

pub all_colourings : {X : Type 0} (items : X → List ℕ) (t : Table) (d : Diagram) (xs : List X) → map items xs ≡ colourings t d
    → All (λ c. IsColouring t d (items c)) xs
all_colourings items t d xs is = λ i e lt. (listing t d).sound (items (get_or xs i e)) (subst (IsOneOf (items (get_or xs i e))) is (one_of items xs i e lt))

-- counted by their items
pub count_items : {X : Type 0} (items : X → List ℕ) (weigh : List ℕ → ℕ) (v : ℕ) (xs : List X)
    → count_by (λ c. weigh (items c) == v) xs ≡ count_by (λ f. weigh f == v) (map items xs)
count_items {X} items weigh v xs = sym (length-filter (λ c. weigh (items c) == v) xs) ∙ (same xs ∙ length-filter (λ f. weigh f == v) (map items xs))
  where
    same : (xs : List X) → length (filter (λ c. weigh (items c) == v) xs) ≡ length (filter (λ f. weigh f == v) (map items xs))
    same [] = refl
    same (x ∷ xs) = step (weigh (items x) == v) (same xs)
      where
        step : (b : Bool) → length (filter (λ c. weigh (items c) == v) xs) ≡ length (filter (λ f. weigh f == v) (map items xs))
            → length (cond b (x ∷ filter (λ c. weigh (items c) == v) xs) (filter (λ c. weigh (items c) == v) xs)) ≡ length
            (cond b (items x ∷ filter (λ f. weigh f == v) (map items xs)) (filter (λ f. weigh f == v) (map items xs)))
        step true e = ap suc e
        step false e = e

pub length_take-le : {X : Type 0} (i : ℕ) (xs : List X) → length (take i xs) ≤ i
length_take-le zero xs = omega arith
length_take-le (suc i) [] = omega arith
length_take-le (suc i) (x ∷ xs) = let rest = length_take-le i xs in omega arith
