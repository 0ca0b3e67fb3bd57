-- The least translate has an X in its lower left cell.
use Rattle.std.proofs.Common.{◌≡◌, ◌≢◌, ◌<◌, ◌≤◌, ◌+◌, ◌%◌, ◌∙◌, ◌⊎◌, ℕ, zero, suc, List, [], ◌∷◌, length, get_or, map, arith, sym, refl, ap, ap₂, subst, inl}
use Rattle.std.proofs.Common.{inr, zero-add}
use Rattle.std.specs.List.{All, Contains, range_with_len, flat_map}
use Rattle.std.specs.declared.cmp.Ordering.{Ordering}
use Rattle.std.specs.declared.cmp.Ordering.TheVariants.{Less, Equal, Greater}
use Rattle.std.specs.Ordering.{nat_cmp, ordering_then}
use Rattle.std.specs.Cmp.Lexicographic.{slice_cmp}
use Rattle.std.proofs.lemmas.Bool.{cases_eq, cases_order}
use Rattle.std.proofs.lemmas.List.{get_or-map, length-map}
use Rattle.std.proofs.lemmas.List.Elements.{All-append, All-map, All-from_get_or, All-contains, Contains-append_left, Contains-append_right}
use Rattle.std.proofs.lemmas.List.FromFn.{get_or-range_with_len, length-range_with_len}
use Rattle.grid_core.specs.declared.mark.Kind.TheVariants.{Cross}
use Rattle.grid_core.specs.Diagram.{Diagram, IsGrid, size, row_of}
use Rattle.grid_core.proofs.Marks.{row_below}
use Rattle.grid_core.proofs.OneEach.{each_below}
use Rattle.grid_moves.specs.Shift.{shifted}
use Rattle.grid_moves.proofs.Shifted.{shifted_to_zero, shifted_above_zero}
use Rattle.grid_keys.specs.declared.least_form.LeastForm.{LeastForm}
use Rattle.grid_keys.specs.Translation.{translate, translates}
use Rattle.grid_keys.specs.Order.{compare, IsAtMost}
use Rattle.grid_keys.specs.CanonicalForm.{IsLeastForm}
use Rattle.grid_keys.specs.Cornered.{cornered, IsFirstLeast}
use Rattle.grid_keys.proofs.Translated.{origin, origin_cases, size-translate, row_of-translate}
use Rattle.grid_keys.proofs.Ordered.{nat_cmp_less, nat_cmp_greater, slice_cmp_at, at_most_from_less, at_most_self, less_then_at_most, at_most_from_not_less}
use Rattle.grid_keys.proofs.Ordered.{less_not_back, then_first}

-- the list of all translates
flat_map_all : {X A : Type 0} (P : A → Type 0) (f : X → List A) (xs : List X) → All (λ x. All P (f x)) xs → All P (flat_map f xs)
flat_map_all P f [] all = λ k d lt. absurd (omega (arith, lt))
flat_map_all P f (x ∷ xs) all = All-append P (f x) (flat_map f xs) (all 0 x (omega arith)) (flat_map_all P f xs (λ k d lt. all (suc k) d (omega (arith, lt))))

range_all : (P : ℕ → Type 0) (n : ℕ) → ((k : ℕ) → k < n → P k) → All P (range_with_len 0 n)
range_all P n all =
    All-from_get_or P (range_with_len 0 n) 0 (λ i lt. let in_range : i < n = omega (arith, lt, length-range_with_len 0 n) in subst P
    (sym (get_or-range_with_len 0 n i 0 in_range ∙ zero-add i)) (all i in_range))

pub translates_all : (P : Diagram → Type 0) (d : Diagram) → ((a b : ℕ) → a < size d → b < size d → P (translate d a b)) → All P (translates d)
translates_all P d all =
    flat_map_all P (λ a. map (λ b. translate d a b) (range_with_len 0 (size d))) (range_with_len 0 (size d))
    (range_all (λ a. All P (map (λ b. translate d a b) (range_with_len 0 (size d)))) (size d) (λ a ha.
    All-map P (λ b. translate d a b) (range_with_len 0 (size d)) (range_all (λ b. P (translate d a b)) (size d) (λ b hb. all a b ha hb))))

flat_map_contains_at : {X A : Type 0} (f : X → List A) (xs : List X) (x : X) (y : A) (k : ℕ) → k < length xs → get_or xs k x ≡ x → Contains (f x) y
    → Contains (flat_map f xs) y
flat_map_contains_at f [] x y k lt is inner = absurd (omega (arith, lt))
flat_map_contains_at f (z ∷ zs) x y zero lt is inner = Contains-append_left (f z) (flat_map f zs) y (subst (λ w. Contains (f w) y) (sym is) inner)
flat_map_contains_at f (z ∷ zs) x y (suc k) lt is inner = Contains-append_right (f z) (flat_map f zs) y (flat_map_contains_at f zs x y k (omega (arith, lt)) is inner)

pub flat_map_contains : {X A : Type 0} (f : X → List A) (xs : List X) (x : X) (y : A) → Contains xs x → Contains (f x) y → Contains (flat_map f xs) y
flat_map_contains f xs x y c inner = flat_map_contains_at f xs x y c.0 c.1 c.2 inner

pub range_contains : (n k : ℕ) → k < n → Contains (range_with_len 0 n) k
range_contains n k lt = (k, omega (arith, length-range_with_len 0 n, lt), get_or-range_with_len 0 n k k lt ∙ zero-add k)

pub map_contains : {X A : Type 0} (f : X → A) (xs : List X) (x : X) → Contains xs x → Contains (map f xs) (f x)
map_contains f xs x c = (c.0, omega (arith, length-map xs f, c.1), get_or-map f xs c.0 x (f x) c.1 ∙ ap f c.2)

pub translates_contains : (d : Diagram) (a b : ℕ) → a < size d → b < size d → Contains (translates d) (translate d a b)
translates_contains d a b ha hb =
    flat_map_contains (λ a. map (λ b. translate d a b) (range_with_len 0 (size d))) (range_with_len 0 (size d)) a (translate d a b)
    (range_contains (size d) a ha)
    (map_contains (λ b. translate d a b) (range_with_len 0 (size d)) b (range_contains (size d) b hb))

-- the shifts that reach a translate
pub shifts_of : (d e : Diagram) → Contains (translates d) e → (a : ℕ) × (b : ℕ) × (a < size d) × (b < size d) × (translate d a b ≡ e)
shifts_of d e c =
    All-contains (λ t. (a : ℕ) × (b : ℕ) × (a < size d) × (b < size d) × (translate d a b ≡ t)) (translates d) e
    (translates_all (λ t. (a : ℕ) × (b : ℕ) × (a < size d) × (b < size d) × (translate d a b ≡ t)) d (λ a b ha hb. (a, b, ha, hb, refl))) c

-- the lower left cell
pub origin_zero : (n a : ℕ) → a < n → origin n a 0 ≡ a
origin_zero n a lt = elim (origin_cases n a 0 lt (omega (arith, lt))) [ inl low ↦ omega (arith, low.1) | inr high ↦ absurd (omega (arith, high.0, lt)) ]

pub corner_row : (d : Diagram) (a b : ℕ) → IsGrid d → a < size d → row_of Cross (translate d a b) 0 ≡ shifted (size d) b (row_of Cross d a)
corner_row d a b grid ha =
    row_of-translate d a b grid ha Cross 0 (omega (arith, grid.least)) ∙ ap (λ (z : ℕ). shifted (size d) b (row_of Cross d z)) (origin_zero (size d) a ha)

pub cornered_row : (d : Diagram) (a : ℕ) → IsGrid d → a < size d → row_of Cross (cornered d a) 0 ≡ 0
cornered_row d a grid ha = corner_row d a (row_of Cross d a) grid ha ∙ shifted_to_zero (size d) (row_of Cross d a) (row_below d grid Cross a ha)

-- a translate with an X there is less than one without
pub cornered_less : (d : Diagram) (a a' b' : ℕ) → IsGrid d → a < size d → a' < size d → b' < size d → b' ≢ row_of Cross d a'
    → compare (cornered d a) (translate d a' b') ≡ Less
cornered_less d a a' b' grid ha ha' hb' ne =
    let below = row_below d grid Cross a ha in
    let near = cornered_row d a grid ha in
    let far = corner_row d a' b' grid ha' in
    let above = shifted_above_zero (size d) b' (row_of Cross d a') hb' (row_below d grid Cross a' ha') (λ e. ne (sym e)) in
    let less : nat_cmp (row_of Cross (cornered d a) 0) (row_of Cross (translate d a' b') 0) ≡ Less =
    nat_cmp_less (row_of Cross (cornered d a) 0) (row_of Cross (translate d a' b') 0) (omega (arith, near, far, above)) in
    ap (λ o. ordering_then o (slice_cmp nat_cmp (cornered d a).o (translate d a' b').o))
    (slice_cmp_at (cornered d a).x (translate d a' b').x 0 (omega (arith, size-translate d a (row_of Cross d a) ha, grid.least))
    (omega (arith, size-translate d a' b' ha', grid.least)) (λ k lt. absurd (omega (arith, lt)))
    (λ e. absurd (let no : Less ≡ Equal = sym less ∙ e in cc)) ∙ less)

-- of two with an X there, the second columns decide where they differ
second_at : (d : Diagram) (a b : ℕ) → IsGrid d → a < size d → b < size d → (o : Ordering)
    → nat_cmp (row_of Cross (cornered d a) 1) (row_of Cross (cornered d b) 1) ≡ o → o ≢ Equal → compare (cornered d a) (cornered d b) ≡ o
second_at d a b grid ha hb o e apart =
    ap (λ p. ordering_then p (slice_cmp nat_cmp (cornered d a).o (cornered d b).o))
    (slice_cmp_at (cornered d a).x (cornered d b).x 1 (omega (arith, size-translate d a (row_of Cross d a) ha, grid.least))
    (omega (arith, size-translate d b (row_of Cross d b) hb, grid.least))
    (λ k lt. ap (λ (z : ℕ). row_of Cross (cornered d a) z) (let is : k ≡ 0 = omega (arith, lt) in is) ∙ cornered_row d a grid ha
    ∙ sym (ap (λ (z : ℕ). row_of Cross (cornered d b) z) (let is : k ≡ 0 = omega (arith, lt) in is) ∙ cornered_row d b grid hb))
    (λ tied. apart (sym e ∙ tied)) ∙ e)
    ∙ then_first o (slice_cmp nat_cmp (cornered d a).o (cornered d b).o) apart

pub second_less : (d : Diagram) (a b : ℕ) → IsGrid d → a < size d → b < size d → row_of Cross (cornered d a) 1 < row_of Cross (cornered d b) 1
    → compare (cornered d a) (cornered d b) ≡ Less
second_less d a b grid ha hb lt =
    second_at d a b grid ha hb Less (nat_cmp_less (row_of Cross (cornered d a) 1) (row_of Cross (cornered d b) 1) lt) (λ e. let other : Less ≡ Equal = e in cc)

pub second_greater : (d : Diagram) (a b : ℕ) → IsGrid d → a < size d → b < size d → row_of Cross (cornered d b) 1 < row_of Cross (cornered d a) 1
    → compare (cornered d a) (cornered d b) ≡ Greater
second_greater d a b grid ha hb lt =
    second_at d a b grid ha hb Greater (nat_cmp_greater (row_of Cross (cornered d a) 1) (row_of Cross (cornered d b) 1) lt)
    (λ e. let other : Greater ≡ Equal = e in cc)

-- the rows of both kinds lie in the grid
pub rows_inside : (d : Diagram) → IsGrid d → All (λ r. r < length d.x) d.x
rows_inside d grid = each_below (size d) d.x grid.crosses

pub rings_inside : (d : Diagram) → IsGrid d → All (λ r. r < length d.o) d.o
rings_inside d grid = subst (λ (n : ℕ). All (λ r. r < n) d.o) (sym grid.same) (each_below (size d) d.o grid.rings)

-- the next column, round the circle
pub next_inside : (n c next : ℕ) → c + 1 < n → next ≡ c + 1 → next ≡ (1 + c) % n
next_inside n c next inside is = elim (origin_cases n c 1 (omega (arith, inside)) (omega (arith, inside)))
    [ inl low ↦ omega (arith, is, low.1) | inr high ↦ absurd (omega (arith, high.0, inside)) ]

pub next_of_last : (n c : ℕ) → 2 ≤ n → c + 1 ≡ n → 0 ≡ (1 + c) % n
next_of_last n c least last = elim (origin_cases n c 1 (omega (arith, last)) (omega (arith, least)))
    [ inl low ↦ absurd (omega (arith, low.0, last)) | inr high ↦ omega (arith, high.1, last) ]

-- the first of the least among these is the least of all
pub least_form_at : (d : Diagram) (a : ℕ) (form : LeastForm) → IsGrid d → IsFirstLeast d (size d) a → form.grid ≡ cornered d a → form.columns ≡ a
    → form.rows ≡ row_of Cross d a → IsLeastForm d form
least_form_at d a form grid best is columns rows =
    let below = row_below d grid Cross a best.inside in
    let reached : translate d form.columns form.rows ≡ form.grid =
    ap (λ (z : ℕ). translate d z form.rows) columns ∙ ap (λ (z : ℕ). translate d a z) rows ∙ sym is in
    record {
      canonical = record {
        among = subst (λ t. Contains (translates d) t) (sym is) (translates_contains d a (row_of Cross d a) best.inside below);
        least = translates_all (λ t. IsAtMost form.grid t) d (λ a' b' ha' hb'. subst (λ t. IsAtMost t (translate d a' b')) (sym is) (least_at a' b' ha' hb'));
      };
      columns = omega (arith, columns, best.inside);
      rows = omega (arith, rows, below);
      reached = reached;
      first = λ a' b' ha' hb' same. first_at a' b' ha' hb' (same ∙ is);
    }
  where
    least_at : (a' b' : ℕ) → a' < size d → b' < size d → IsAtMost (cornered d a) (translate d a' b')
    least_at a' b' ha' hb' = elim (cases_eq b' (row_of Cross d a')) [
      | inl e ↦ subst (λ (z : ℕ). IsAtMost (cornered d a) (translate d a' z)) (sym e) (best.least a' ha')
      | inr ne ↦ at_most_from_less (cornered d a) (translate d a' b') (cornered_less d a a' b' grid best.inside ha' hb' ne)
    ]

    first_at : (a' b' : ℕ) → a' < size d → b' < size d → translate d a' b' ≡ cornered d a → (form.columns < a') ⊎ ((form.columns ≡ a') × (form.rows ≤ b'))
    first_at a' b' ha' hb' same = elim (cases_eq b' (row_of Cross d a')) [
      | inl e ↦ elim (cases_order a a') [
        | inl here ↦ inr (columns ∙ here, omega (arith, rows, e, ap (λ (z : ℕ). row_of Cross d z) here))
        | inr other ↦ elim other [
          | inl after ↦ inl (omega (arith, columns, after))
          | inr before ↦
              absurd (less_not_back (cornered d a) (cornered d a') (best.first a' before)
              (subst (λ t. IsAtMost t (cornered d a)) (ap (λ (z : ℕ). translate d a' z) e)
              (subst (λ t. IsAtMost (translate d a' b') t) same (at_most_self (translate d a' b')))))
        ]
      ]
      | inr ne ↦
          absurd (less_not_back (cornered d a) (translate d a' b') (cornered_less d a a' b' grid (best.inside) ha' hb' ne)
          (subst (λ t. IsAtMost (translate d a' b') t) same (at_most_self (translate d a' b'))))
    ]

-- one more column
pub first_least_one : (d : Diagram) → IsFirstLeast d 1 0
first_least_one d = record {
  inside = omega arith;
  least = λ b lt. subst (λ (z : ℕ). IsAtMost (cornered d 0) (cornered d z)) (let e : 0 ≡ b = omega (arith, lt) in e) (at_most_self (cornered d 0));
  first = λ b lt. absurd (omega (arith, lt));
}

pub first_least_keeps : (d : Diagram) (n a : ℕ) → IsFirstLeast d n a → compare (cornered d n) (cornered d a) ≢ Less → IsFirstLeast d (n + 1) a
first_least_keeps d n a best same = record {
  inside = omega (arith, best.inside);
  least = λ b lt. elim (cases_eq b n) [
    | inl e ↦ subst (λ (z : ℕ). IsAtMost (cornered d a) (cornered d z)) (sym e) (at_most_from_not_less (cornered d n) (cornered d a) same)
    | inr ne ↦ best.least b (omega (arith, lt, ne))
  ];
  first = best.first;
}

pub first_least_takes : (d : Diagram) (n a : ℕ) → IsFirstLeast d n a → compare (cornered d n) (cornered d a) ≡ Less → IsFirstLeast d (n + 1) n
first_least_takes d n a best less = record {
  inside = omega arith;
  least = λ b lt. elim (cases_eq b n) [
    | inl e ↦ subst (λ (z : ℕ). IsAtMost (cornered d n) (cornered d z)) (sym e) (at_most_self (cornered d n))
    | inr ne ↦
        at_most_from_less (cornered d n) (cornered d b) (less_then_at_most (cornered d n) (cornered d a) (cornered d b) less
        (best.least b (omega (arith, lt, ne))))
  ];
  first = λ b lt. less_then_at_most (cornered d n) (cornered d a) (cornered d b) less (best.least b lt);
}

-- from the rows that were read
pub first_least_read : (d : Diagram) (x o : List ℕ) (a : ℕ) → x ≡ d.x → o ≡ d.o → IsFirstLeast (record { x = x; o = o }) (length x) a
    → IsFirstLeast d (size d) a
first_least_read d x o a ex eo best = subst (λ (e : Diagram). IsFirstLeast e (size e) a) (ap₂ pair ex eo) best
  where
    pair : List ℕ → List ℕ → Diagram
    pair x o = record { x = x; o = o }

-- by the rows of the Xs of the second columns
pub first_least_lower : (d : Diagram) (n a p q : ℕ) → IsGrid d → n < size d → IsFirstLeast d n a → p ≡ row_of Cross (cornered d n) 1
    → q ≡ row_of Cross (cornered d a) 1 → p < q → IsFirstLeast d (n + 1) n
first_least_lower d n a p q grid lt best ep eq less =
    first_least_takes d n a best (second_less d n a grid lt (omega (arith, best.inside, lt)) (omega (arith, ep, eq, less)))

pub first_least_higher : (d : Diagram) (n a p q : ℕ) → IsGrid d → n < size d → IsFirstLeast d n a → p ≡ row_of Cross (cornered d n) 1
    → q ≡ row_of Cross (cornered d a) 1 → q < p → IsFirstLeast d (n + 1) a
first_least_higher d n a p q grid lt best ep eq more =
    first_least_keeps d n a best (λ e. let no : Greater ≡ Less = sym (second_greater d n a grid lt (omega (arith, best.inside, lt))
    (omega (arith, ep, eq, more))) ∙ e in cc)

-- two columns of which the first two rows of the Xs agree
pub first_two_agree : (d : Diagram) (a b : ℕ) → IsGrid d → a < size d → b < size d → row_of Cross (cornered d a) 1 ≡ row_of Cross (cornered d b) 1 → (c : ℕ)
    → c < 2 → row_of Cross (cornered d a) c ≡ row_of Cross (cornered d b) c
first_two_agree d a b grid ha hb one zero lt = cornered_row d a grid ha ∙ sym (cornered_row d b grid hb)
first_two_agree d a b grid ha hb one (suc c) lt =
    let at : suc c ≡ 1 = omega (arith, lt) in
    ap (λ (z : ℕ). row_of Cross (cornered d a) z) at ∙ one ∙ sym (ap (λ (z : ℕ). row_of Cross (cornered d b) z) at)

is_less : (o : Ordering) → (o ≡ Less) ⊎ (o ≢ Less)
is_less Less = inl refl
is_less Equal = inr (λ e. let no : Equal ≡ Less = e in cc)
is_less Greater = inr (λ e. let no : Greater ≡ Less = e in cc)

pub first_least_exists : (d : Diagram) (n : ℕ) → (a : ℕ) × IsFirstLeast d (n + 1) a
first_least_exists d zero = (0, first_least_one d)
first_least_exists d (suc n) =
    let best = first_least_exists d n in
    let more : IsFirstLeast d (suc n) best.0 = subst (λ (z : ℕ). IsFirstLeast d z best.0) (omega arith) best.1 in
    elim (is_less (compare (cornered d (suc n)) (cornered d best.0))) [
      | inl less ↦ (suc n, first_least_takes d (suc n) best.0 more less)
      | inr same ↦ (best.0, first_least_keeps d (suc n) best.0 more same)
    ]
