-- A diagram has at most half as many bottoms as columns, since both columns of a bottom begin there.
use Rattle.std.proofs.Common.{◌≡◌, ◌≢◌, ◌<◌, ◌≤◌, ◌+◌, ◌*◌, ◌^◌, ◌==◌, ◌∷◌, ◌∙◌, [], ℕ, zero, suc, List, Bool, true, false, cond, count_by}
use Rattle.std.proofs.Common.{get_or, length, nat_lt, arith, sym, refl, ap, subst, inl, inr}
use Rattle.std.specs.List.{range_with_len}
use Rattle.std.proofs.lemmas.Bool.{and_parts, le-leb, cases_lt}
use Rattle.std.proofs.lemmas.Bool.Decides.{nat_tests}
use Rattle.std.proofs.lemmas.List.Sums.{sum_by-cons, count_by-le-length}
use Rattle.std.proofs.lemmas.List.FromFn.{length-range_with_len, get_or-range_with_len}
use Rattle.std.proofs.Math.Nat.{pow-le-pow_left, pow-le-pow_right}
use Rattle.grid_core.specs.declared.mark.Kind.TheVariants.{Cross, Ring}
use Rattle.grid_core.specs.Diagram.{Diagram, IsGrid, size, row_of}
use Rattle.grid_core.specs.Parts.{column_of, is_bottom, bottoms}
use Rattle.grid_core.proofs.Marks.{column_mark, no_cell_twice}
use Rattle.quandle_core.specs.Quandle.{Table}
use Rattle.colour_list.specs.declared.limits.TheConstants.{MAX_COLOURINGS}
use Rattle.colour_list.specs.Fits.{fits}
use Rattle.search_jobs.specs.declared.walk.TheConstants.{LARGEST}
use Rattle.search_jobs.specs.declared.text.TheConstants.{LARGEST_ORDER}
use Rattle.grid_core.proofs.Bottoms.{count_more}
use Rattle.grid_core.proofs.Ends.{low}

-- ---- counts

counted_first : {X : Type 0} (p : X → Bool) (x : X) (xs : List X) → count_by p (x ∷ xs) ≡ cond (p x) 1 0 + count_by p xs
counted_first p x xs = sum_by-cons (λ y. cond (p y) 1 0) x xs

-- at most k, or k itself
counted_next : (f : ℕ → ℕ) (k : ℕ) (xs : List ℕ) → count_by (λ c. nat_lt (f c) (k + 1)) xs ≡ count_by (λ c. nat_lt (f c) k) xs + count_by (λ c. f c == k) xs
counted_next f k [] = refl
counted_next f k (x ∷ xs) =
    let one = counted_first (λ c. nat_lt (f c) (k + 1)) x xs in
    let two = counted_first (λ c. nat_lt (f c) k) x xs in
    let three = counted_first (λ c. f c == k) x xs in
    let rest = counted_next f k xs in
    let here : cond (nat_lt (f x) (k + 1)) 1 0 ≡ cond (nat_lt (f x) k) 1 0 + cond (f x == k) 1 0 = grind (arith, nat_tests) in
    omega arith

-- what passes at one place, and at two
counted_once : (p : ℕ → Bool) (xs : List ℕ) (i : ℕ) → i < length xs → p (get_or xs i 0) ≡ true → 1 ≤ count_by p xs
counted_once p [] i lt pass = absurd (omega (arith, lt))
counted_once p (x ∷ xs) zero lt pass =
    let first = counted_first p x xs in
    let one : cond {A = ℕ} (p x) 1 0 ≡ 1 = ap (λ (b : Bool). cond {A = ℕ} b 1 0) pass in
    omega arith
counted_once p (x ∷ xs) (suc i) lt pass =
    let first = counted_first p x xs in
    let rest = counted_once p xs i (omega (arith, lt)) pass in
    omega arith

counted_twice : (p : ℕ → Bool) (xs : List ℕ) (i j : ℕ) → i < j → j < length xs → p (get_or xs i 0) ≡ true → p (get_or xs j 0) ≡ true → 2 ≤ count_by p xs
counted_twice p [] i j less lt one two = absurd (omega (arith, lt))
counted_twice p (x ∷ xs) i zero less lt one two = absurd (omega (arith, less))
counted_twice p (x ∷ xs) zero (suc j) less lt one two =
    let first = counted_first p x xs in
    let here : cond {A = ℕ} (p x) 1 0 ≡ 1 = ap (λ (b : Bool). cond {A = ℕ} b 1 0) one in
    let rest = counted_once p xs j (omega (arith, lt)) two in
    omega arith
counted_twice p (x ∷ xs) (suc i) (suc j) less lt one two =
    let first = counted_first p x xs in
    let rest = counted_twice p xs i j (omega (arith, less)) (omega (arith, lt)) one two in
    omega arith

counted_apart : (p : ℕ → Bool) (n i j : ℕ) → i ≢ j → i < n → j < n → p i ≡ true → p j ≡ true → 2 ≤ count_by p (range_with_len 0 n)
counted_apart p n i j apart li lj one two =
    let at : (k : ℕ) → k < n → p k ≡ true → p (get_or (range_with_len 0 n) k 0) ≡ true =
    λ k lt pass. ap p (get_or-range_with_len 0 n k 0 lt ∙ (let e : 0 + k ≡ k = omega arith in e)) ∙ pass in
    let long = length-range_with_len 0 n in
    elim (cases_lt i j) [
      | inl less ↦ counted_twice p (range_with_len 0 n) i j less (omega (arith, lj, long)) (at i li one) (at j lj two)
      | inr more ↦ counted_twice p (range_with_len 0 n) j i (let h : j < i = omega (arith, more, apart) in h) (omega (arith, li, long)) (at j lj two)
          (at i li one)
    ]

-- ---- bottoms

two_begin : (d : Diagram) → IsGrid d → (r : ℕ) → r < size d → is_bottom d r ≡ true → 2 ≤ count_by (λ c. low d c == r) (range_with_len 0 (size d))
two_begin d grid r lt bottom =
    let cross = column_mark d grid Cross r lt in
    let ring = column_mark d grid Ring r lt in
    let begin = and_parts (low d (column_of Cross d r) == r) (low d (column_of Ring d r) == r) bottom in
    counted_apart (λ c. low d c == r) (size d) (column_of Cross d r) (column_of Ring d r)
    (λ e. no_cell_twice d grid (column_of Cross d r) cross.inside
    (cross.row ∙ (sym ring.row ∙ ap (row_of Ring d) (sym e)))) cross.inside ring.inside begin.0 begin.1

-- below row k, and so among all rows
record Half (d : Diagram) (k : ℕ) : Type 0 where
  half : 2 * count_by (λ r. is_bottom d r) (range_with_len 0 k) ≤ count_by (λ c. nat_lt (low d c) k) (range_with_len 0 (size d))

one_more_row : (d : Diagram) → IsGrid d → (k : ℕ) → k < size d → (b : Bool) → is_bottom d k ≡ b → Half d k → Half d (k + 1)
one_more_row d grid k lt true is below =
    let rows = count_more (λ r. is_bottom d r) k in
    let one : cond {A = ℕ} (is_bottom d k) 1 0 ≡ 1 = ap (λ (b : Bool). cond {A = ℕ} b 1 0) is in
    let columns = counted_next (low d) k (range_with_len 0 (size d)) in
    let two = two_begin d grid k lt is in
    record { half = omega (arith, below.half, rows, one, columns, two) }
one_more_row d grid k lt false is below =
    let rows = count_more (λ r. is_bottom d r) k in
    let none : cond {A = ℕ} (is_bottom d k) 1 0 ≡ 0 = ap (λ (b : Bool). cond {A = ℕ} b 1 0) is in
    let columns = counted_next (low d) k (range_with_len 0 (size d)) in
    record { half = omega (arith, below.half, rows, none, columns) }

half_below : (d : Diagram) → IsGrid d → (k : ℕ) → k ≤ size d → Half d k
half_below d grid zero le = record { half = omega arith }
half_below d grid (suc k) le =
    subst (λ (m : ℕ). Half d m) (let e : k + 1 ≡ suc k = omega arith in e)
    (one_more_row d grid k (omega (arith, le)) (is_bottom d k) refl (half_below d grid k (omega (arith, le))))

pub half_are_bottoms : (d : Diagram) → IsGrid d → 2 * bottoms d ≤ size d
half_are_bottoms d grid =
    omega (
      arith,
      (half_below d grid (size d) (omega arith)).half,
      count_by-le-length (λ c. nat_lt (low d c) (size d))
          (range_with_len 0 (size d)),
      length-range_with_len 0 (size d),
    )

-- so a small quandle fits a small diagram
power_small : (q b : ℕ) → q ≤ LARGEST_ORDER → 2 * b ≤ LARGEST → q ^ b ≤ MAX_COLOURINGS
power_small q b order few =
    let left : q ^ b ≤ LARGEST_ORDER ^ b = pow-le-pow_left order b in
    let five : b ≤ 5 = omega (arith, few) in
    let some : 0 < LARGEST_ORDER = omega arith in
    let right : LARGEST_ORDER ^ b ≤ LARGEST_ORDER ^ 5 = pow-le-pow_right some five in
    omega (arith, left, right)

pub small_fits : (t : Table) (d : Diagram) → IsGrid d → size d ≤ LARGEST → t.order ≤ LARGEST_ORDER → fits t d ≡ true
small_fits t d grid small order =
    le-leb (t.order ^ bottoms d) MAX_COLOURINGS (power_small t.order (bottoms d) order (omega (arith, half_are_bottoms d grid, small)))
