-- Components are at most as many as columns, and a linking number is at most the number of places where a column may cross a row.
use Rattle.std.proofs.Common.{◌≡◌, ◌≤◌, ◌+◌, ◌*◌, ◌∙◌, ◌==◌, ◌&&◌, ℕ, ℤ, pos, negsuc, neg_ℤ, ◌≤ℤ◌, unsigned_abs, List, [], ◌∷◌, ◌++◌, Bool, true, false, cond}
use Rattle.std.proofs.Common.{length, map, fold, refl, ap, arith}
use Rattle.std.specs.Prelude.{◌+ℤ◌, int_lt}
use Rattle.std.specs.List.{AllByRecursion, filter, flat_map, range_with_len}
use Rattle.std.proofs.Math.Nat.{mul-le-mul_left, mul-le-mul_right, suc-mul}
use Rattle.std.proofs.lemmas.Int.{ints}
use Rattle.std.proofs.lemmas.List.{length-append, length-map}
use Rattle.std.proofs.lemmas.List.FromFn.{length-range_with_len}
use Rattle.std.proofs.lemmas.List.Sums.{length-filter, count_by-le-length}
use Rattle.grid_core.specs.Diagram.{Diagram, size}
use Rattle.grid_core.specs.Parts.{is_up, is_rightward}
use Rattle.grid_core.specs.Crossing.{crosses, sign, unit, cross_product}
use Rattle.linking_core.specs.Component.{component_number, row_component_number, components}
use Rattle.linking_core.specs.Linking.{signs_of_row, signs, sum_of, linking_number, linking_numbers_of, linking_numbers, put, ascending, linking}

filter_few : {A : Type 0} (p : A → Bool) (xs : List A) → length (filter p xs) ≤ length xs
filter_few p xs = let same = length-filter p xs in let few = count_by-le-length p xs in omega (arith, same, few)

pub components_few : (d : Diagram) → length (components d) ≤ size d
components_few d =
    let few = filter_few (λ c. component_number d c == c) (range_with_len 0 (size d)) in
    let all = length-range_with_len 0 (size d) in
    omega (arith, few, all)

-- ---- each sign is 1 or -1

abbrev IsUnit : ℤ → Type 0
IsUnit z = (negsuc 0 ≤ℤ z) × (z ≤ℤ pos 1)

by_ways : (up right : Bool) → IsUnit (cross_product (record { x = pos 0; y = unit up }) (record { x = unit right; y = pos 0 }))
by_ways true true = (omega (arith, ints), omega (arith, ints))
by_ways true false = (omega (arith, ints), omega (arith, ints))
by_ways false true = (omega (arith, ints), omega (arith, ints))
by_ways false false = (omega (arith, ints), omega (arith, ints))

sign_unit : (d : Diagram) (c r : ℕ) → IsUnit (sign d c r)
sign_unit d c r = by_ways (is_up d c) (is_rightward d r)

each_map : {A B : Type 0} (P : B → Type 0) (f : A → B) (xs : List A) → ((x : A) → P (f x)) → AllByRecursion P (map f xs)
each_map P f [] each = tt
each_map P f (x ∷ xs) each = (each x, each_map P f xs each)

each_append : {A : Type 0} (P : A → Type 0) (xs ys : List A) → AllByRecursion P xs → AllByRecursion P ys → AllByRecursion P (xs ++ ys)
each_append P [] ys first second = second
each_append P (x ∷ xs) ys first second = (first.0, each_append P xs ys first.1 second)

each_flat : {A B : Type 0} (P : B → Type 0) (f : A → List B) (xs : List A) → ((x : A) → AllByRecursion P (f x)) → AllByRecursion P (flat_map f xs)
each_flat P f [] each = tt
each_flat P f (x ∷ xs) each = each_append P (f x) (flat_map f xs) (each x) (each_flat P f xs each)

signs_units : (d : Diagram) (i j : ℕ) → AllByRecursion IsUnit (signs d i j)
signs_units d i j =
    each_flat IsUnit (signs_of_row d i) (filter (λ r. row_component_number d r == j) (range_with_len 0 (size d)))
    (λ r. each_map IsUnit (λ c. sign d c r) (filter (λ c. (component_number d c == i) && crosses d c r) (range_with_len 0 (size d))) (λ c. sign_unit d c r))

-- ---- and there are at most as many as places

flat_few : {A B : Type 0} (f : A → List B) (n : ℕ) (xs : List A) → ((x : A) → length (f x) ≤ n) → length (flat_map f xs) ≤ length xs * n
flat_few f n [] each = omega arith
flat_few f n (x ∷ xs) each =
    let all = length-append (f x) (flat_map f xs) in
    let here = each x in
    let rest = flat_few f n xs each in
    let more = suc-mul (length xs) n in
    omega (arith, all, here, rest, more)

row_few : (d : Diagram) (i r : ℕ) → length (signs_of_row d i r) ≤ size d
row_few d i r =
    let columns = filter (λ c. (component_number d c == i) && crosses d c r) (range_with_len 0 (size d)) in
    let same = length-map columns (λ c. sign d c r) in
    let few = filter_few (λ c. (component_number d c == i) && crosses d c r) (range_with_len 0 (size d)) in
    let all = length-range_with_len 0 (size d) in
    omega (arith, same, few, all)

signs_few : (d : Diagram) (i j n : ℕ) → size d ≤ n → length (signs d i j) ≤ n * n
signs_few d i j n fits =
    let rows = filter (λ r. row_component_number d r == j) (range_with_len 0 (size d)) in
    let each = flat_few (signs_of_row d i) n rows (λ r. let few = row_few d i r in omega (arith, few, fits)) in
    let few = filter_few (λ r. row_component_number d r == j) (range_with_len 0 (size d)) in
    let all = length-range_with_len 0 (size d) in
    let up : length rows * n ≤ n * n = mul-le-mul_right n (omega (arith, few, all, fits)) in
    omega (arith, each, up)

-- ---- so a sum of them is small

abbrev IsWithin : ℕ → ℤ → Type 0
IsWithin n z = (neg_ℤ (pos n) ≤ℤ z) × (z ≤ℤ pos n)

sum_within : (zs : List ℤ) (s : ℤ) (m : ℕ) → AllByRecursion IsUnit zs → IsWithin m s → IsWithin (m + length zs) (fold (λ s z. s +ℤ z) s zs)
sum_within [] s m units within = (omega (arith, ints, within.0), omega (arith, ints, within.1))
sum_within (z ∷ zs) s m units within =
    let next : IsWithin (m + 1) (s +ℤ z) = (omega (arith, ints, within.0, units.0.0), omega (arith, ints, within.1, units.0.1)) in
    let rest = sum_within zs (s +ℤ z) (m + 1) units.1 next in
    (omega (arith, ints, rest.0), omega (arith, ints, rest.1))

abbrev pub IsSmall : ℕ → ℤ → Type 0
IsSmall n z = unsigned_abs z ≤ n

small : (n m : ℕ) (z : ℤ) → m ≤ n → IsWithin m z → IsSmall n z
small n m (pos k) fits within = omega (arith, ints, fits, within.1)
small n m (negsuc k) fits within = omega (arith, ints, fits, within.0)

number_small : (d : Diagram) (i j n : ℕ) → size d ≤ n → IsSmall (n * n) (linking_number d i j)
number_small d i j n fits =
    let within = sum_within (signs d i j) (pos 0) 0 (signs_units d i j) (omega (arith, ints), omega (arith, ints)) in
    let few = signs_few d i j n fits in
    small (n * n) (0 + length (signs d i j)) (linking_number d i j) (omega (arith, few)) within

-- ---- and so is each of the list

put_each : (P : ℤ → Type 0) (ys : List ℤ) (z : ℤ) → AllByRecursion P ys → P z → AllByRecursion P (put ys z)
put_each P [] z all here = (here, tt)
put_each P (y ∷ ys) z all here = by (int_lt y z) (put_each P ys z all.1 here)
  where
    by : (t : Bool) → AllByRecursion P (put ys z) → AllByRecursion P (cond t (y ∷ put ys z) (z ∷ y ∷ ys))
    by true later = (all.0, later)
    by false later = (here, all)

ascending_each : (P : ℤ → Type 0) (zs before : List ℤ) → AllByRecursion P zs → AllByRecursion P before → AllByRecursion P (fold put before zs)
ascending_each P [] before all so_far = so_far
ascending_each P (z ∷ zs) before all so_far = ascending_each P zs (put before z) all.1 (put_each P before z so_far all.0)

pub linking_small : (d : Diagram) (n : ℕ) → size d ≤ n → AllByRecursion (IsSmall (n * n)) (linking d)
linking_small d n fits =
    ascending_each (IsSmall (n * n)) (linking_numbers d) []
    (each_flat (IsSmall (n * n)) (linking_numbers_of d) (components d)
    (λ i. each_map (IsSmall (n * n)) (linking_number d i) _ (λ j. number_small d i j n fits))) tt
