-- Shifts keep the sum of the signs of one class of columns over another.
use Rattle.std.proofs.Common.{◌≡◌, ◌<◌, ◌-◌, ◌∙◌, ℕ, ℤ, pos, arith, refl, ap}
use Rattle.std.specs.Prelude.{Bool, true, false, nat_lt, ◌&&◌, ◌+ℤ◌, ◌-ℤ◌}
use Rattle.std.specs.List.{range_with_len}
use Rattle.std.proofs.lemmas.Int.{ints}
use Rattle.grid_core.specs.declared.mark.Kind.TheVariants.{Cross, Ring}
use Rattle.grid_core.specs.Diagram.{Diagram, IsGrid, size, row_of}
use Rattle.grid_core.proofs.Marks.{row_below}
use Rattle.grid_moves.specs.Renumbered.{unchanged}
use Rattle.grid_moves.specs.Shift.{shifted}
use Rattle.grid_moves.proofs.Shifted.{shifted_below, shifted_round}
use Rattle.linking_core.proofs.Sums.{total, where_true, total_same, over_sum, over_difference, over_twice, over_where, over_zero, where_zero}
use Rattle.linking_core.proofs.Forms.{count, below, interleaving, IsClosed, columns_meet, by_columns}
use Rattle.linking_core.proofs.Orders.{shift_order}
use Rattle.linking_core.proofs.Balance.{balanced}
use Rattle.linking_core.proofs.Renumberings.{IsRenumbering, columns_after, twice_same}

pub shift_renumbers : (n k : ℕ) → 0 < k → k < n → IsRenumbering n (shifted n k) (shifted n (n - k))
shift_renumbers n k least lt = record {
  into = λ c within. shifted_below n k c lt within;
  from = λ c within. shifted_below n (n - k) c (omega arith) within;
  there = λ c within. shifted_round n k c least lt within;
  again = λ c within.
      ap (λ (j : ℕ). shifted n j (shifted n (n - k) c)) (let e : k ≡ n - (n - k) = omega arith in e)
      ∙ shifted_round n (n - k) c (omega arith) (omega arith) within;
}

-- a shift of rows changes no pair of columns
pair_kept : (n k a b x y : ℕ) → k < n → a < n → b < n → x < n → y < n
    → interleaving (shifted n k a) (shifted n k b) (shifted n k x) (shifted n k y) ≡ interleaving a b x y
pair_kept n k a b x y lt in_a in_b in_x in_y =
    let ax = shift_order n k a x lt in_a in_x (pos 1) in
    let bx = shift_order n k b x lt in_b in_x (pos 1) in
    let ay = shift_order n k a y lt in_a in_y (pos 1) in
    let by' = shift_order n k b y lt in_b in_y (pos 1) in
    omega (arith, ints, ax, bx, ay, by')

pub rows_shifted_sum : (d : Diagram) → IsGrid d → (k : ℕ) → k < size d → (a b : ℕ → Bool)
    → total (size d) (λ q. total (size d) (λ c. where_true (b q && a c) (columns_after d unchanged (shifted (size d) k) q c))) ≡ by_columns d a b
rows_shifted_sum d grid k lt a b =
    twice_same (size d) (λ q c. where_true (b q && a c) (columns_after d unchanged (shifted (size d) k) q c))
    (λ q c. where_true (b q && a c) (where_true (nat_lt q c) (columns_meet d c q))) (λ q c in_q in_c.
    ap (λ (z : ℤ). where_true (b q && a c) (where_true (nat_lt q c) z))
    (pair_kept (size d) k (row_of Cross d c) (row_of Ring d c) (row_of Cross d q) (row_of Ring d q) lt (row_below d grid Cross c in_c)
    (row_below d grid Ring c in_c) (row_below d grid Cross q in_q) (row_below d grid Ring q in_q)))

-- the pairs of a column with all columns of a class balance
over_second : (d : Diagram) → IsGrid d → (b : ℕ → Bool) → IsClosed d b → (c : ℕ) → total (size d) (λ q. where_true (b q) (columns_meet d c q)) ≡ pos 0
over_second d grid b closed c = balanced d grid b closed (below (row_of Cross d c) (row_of Ring d c))

-- how many of two marks lie above s, with their signs
abbrev over_marks : ℕ → ℕ → ℕ → ℤ
over_marks x y s = count (nat_lt s x) -ℤ count (nat_lt s y)

over_first : (d : Diagram) → IsGrid d → (a : ℕ → Bool) → IsClosed d a → (q : ℕ) → total (size d) (λ c. where_true (a c) (columns_meet d c q)) ≡ pos 0
over_first d grid a closed q =
    total_same (size d) (λ c. where_true (a c) (columns_meet d c q))
    (λ c. where_true (a c) (over_marks (row_of Cross d q) (row_of Ring d q) (row_of Cross d c) -ℤ over_marks (row_of Cross d q) (row_of Ring d q)
    (row_of Ring d c)))
    (λ c lt. ap (where_true (a c)) (omega (arith, ints)))
    ∙ balanced d grid a closed (over_marks (row_of Cross d q) (row_of Ring d q))

regroup : (t u v : Bool) (z : ℤ) → where_true (t && u) (where_true v z) ≡ where_true (u && v) (where_true t z)
regroup true true true z = refl
regroup true true false z = refl
regroup true false v z = refl
regroup false true true z = refl
regroup false true false z = refl
regroup false false v z = refl

regroup_first : (t u v : Bool) (z : ℤ) → where_true (t && u) (where_true v z) ≡ where_true (t && v) (where_true u z)
regroup_first true true true z = refl
regroup_first true true false z = refl
regroup_first true false true z = refl
regroup_first true false false z = refl
regroup_first false u v z = refl

-- so do the pairs whose first column, or whose second column, passes a test
second_vanishes : (d : Diagram) → IsGrid d → (a b : ℕ → Bool) → IsClosed d b → (test : ℕ → Bool)
    → total (size d) (λ q. total (size d) (λ c. where_true (b q && a c) (where_true (test c) (columns_meet d c q)))) ≡ pos 0
second_vanishes d grid a b closed test =
    over_twice (λ q c. where_true (b q && a c) (where_true (test c) (columns_meet d c q))) (range_with_len 0 (size d)) (range_with_len 0 (size d))
    ∙ (total_same (size d) (λ c. total (size d) (λ q. where_true (b q && a c) (where_true (test c) (columns_meet d c q)))) (λ c. pos 0) (λ c lt.
    total_same (size d) (λ q. where_true (b q && a c) (where_true (test c) (columns_meet d c q)))
    (λ q. where_true (a c && test c) (where_true (b q) (columns_meet d c q))) (λ q in_q. regroup (b q) (a c) (test c) (columns_meet d c q))
    ∙ (over_where (a c && test c) (λ q. where_true (b q) (columns_meet d c q)) (range_with_len 0 (size d))
    ∙ (ap (where_true (a c && test c)) (over_second d grid b closed c) ∙ where_zero (a c && test c))))
    ∙ over_zero (range_with_len 0 (size d)))

first_vanishes : (d : Diagram) → IsGrid d → (a b : ℕ → Bool) → IsClosed d a → (test : ℕ → Bool)
    → total (size d) (λ q. total (size d) (λ c. where_true (b q && a c) (where_true (test q) (columns_meet d c q)))) ≡ pos 0
first_vanishes d grid a b closed test =
    total_same (size d) (λ q. total (size d) (λ c. where_true (b q && a c) (where_true (test q) (columns_meet d c q)))) (λ q. pos 0) (λ q lt.
    total_same (size d) (λ c. where_true (b q && a c) (where_true (test q) (columns_meet d c q)))
    (λ c. where_true (b q && test q) (where_true (a c) (columns_meet d c q))) (λ c in_c. regroup_first (b q) (a c) (test q) (columns_meet d c q))
    ∙ (over_where (b q && test q) (λ c. where_true (a c) (columns_meet d c q)) (range_with_len 0 (size d))
    ∙ (ap (where_true (b q && test q)) (over_first d grid a closed q) ∙ where_zero (b q && test q))))
    ∙ over_zero (range_with_len 0 (size d))

under_three : (t : Bool) (x y z : ℤ) → where_true t (x +ℤ y -ℤ z) ≡ where_true t x +ℤ where_true t y -ℤ where_true t z
under_three true x y z = refl
under_three false x y z = refl

three_sums : (n : ℕ) (f g h : ℕ → ℤ) → total n (λ c. f c +ℤ g c -ℤ h c) ≡ total n f +ℤ total n g -ℤ total n h
three_sums n f g h =
    let one = over_difference (λ c. f c +ℤ g c) h (range_with_len 0 n) in
    let two = over_sum f g (range_with_len 0 n) in
    omega (arith, ints, one, two)

pub columns_shifted_sum : (d : Diagram) → IsGrid d → (k : ℕ) → k < size d → (a b : ℕ → Bool) → IsClosed d a → IsClosed d b
    → total (size d) (λ q. total (size d) (λ c. where_true (b q && a c) (columns_after d (shifted (size d) k) unchanged q c))) ≡ by_columns d a b
columns_shifted_sum d grid k lt a b closed closed' =
    let n = size d in
    let each = twice_same n (λ q c. where_true (b q && a c) (columns_after d (shifted n k) unchanged q c)) (λ q c. kept q c +ℤ second q c -ℤ first q c)
    (λ q c in_q in_c.
    ap (where_true (b q && a c)) (shift_order n k q c lt in_q in_c (columns_meet d c q))
    ∙ under_three (b q && a c) (where_true (nat_lt q c) (columns_meet d c q)) (where_true (nat_lt c k) (columns_meet d c q))
    (where_true (nat_lt q k) (columns_meet d c q))) in
    let inner = total_same n (λ q. total n (λ c. kept q c +ℤ second q c -ℤ first q c)) (λ q. total n (kept q) +ℤ total n (second q) -ℤ total n (first q))
    (λ q in_q. three_sums n (kept q) (second q) (first q)) in
    let outer = three_sums n (λ q. total n (kept q)) (λ q. total n (second q)) (λ q. total n (first q)) in
    let one = second_vanishes d grid a b closed' (λ c. nat_lt c k) in
    let two = first_vanishes d grid a b closed (λ q. nat_lt q k) in
    omega (arith, ints, each, inner, outer, one, two)
  where
    kept : ℕ → ℕ → ℤ
    kept q c = where_true (b q && a c) (where_true (nat_lt q c) (columns_meet d c q))

    second : ℕ → ℕ → ℤ
    second q c = where_true (b q && a c) (where_true (nat_lt c k) (columns_meet d c q))

    first : ℕ → ℕ → ℤ
    first q c = where_true (b q && a c) (where_true (nat_lt q k) (columns_meet d c q))
