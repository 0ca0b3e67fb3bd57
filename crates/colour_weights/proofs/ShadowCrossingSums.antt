-- The sum over crossings is the sum over rows.
use Rattle.std.proofs.Common.{◌≡◌, ◌≢◌, ◌∙◌, ◌<◌, ◌+◌, ◌-◌, ◌%◌, ℕ, zero, suc, List, [], ◌∷◌, fold, ap, ap₂, sym, refl, subst, arith, inl, inr, cond}
use Rattle.std.specs.Prelude.{Bool, true, false, slice_index, filter, pos, int_lt, nat_lt, nat_le, ◌&&◌, ◌||◌, ◌==◌}
use Rattle.std.specs.List.{range_with_len, sum_by}
use Rattle.std.proofs.Math.Bool.{not}
use Rattle.std.proofs.lemmas.List.Sums.{sum_by-cons}
use Rattle.std.proofs.lemmas.Bool.{cases_Bool, cond-true, cond-false, eqb-true, or_from, false≢true}
use Rattle.std.proofs.lemmas.Bool.Decides.{nat_tests}
use Rattle.grid_core.specs.Diagram.{Diagram, IsGrid, size}
use Rattle.grid_core.specs.Parts.{ends, covers, is_up, is_rightward}
use Rattle.grid_core.specs.Span.{span, lies_within}
use Rattle.grid_core.proofs.Marks.{no_cell_twice}
use Rattle.colour_laws.specs.Level.{covers_height}
use Rattle.colour_laws.proofs.ByIndex.{coloured_at}
use Rattle.grid_core.specs.Crossing.{unit, cross_product, is_positive}
use Rattle.quandle_core.specs.Quandle.{Table, IsQuandle, back}
use Rattle.colour_rows.specs.Walk.{under, passed, passed_rightward, walk_to}
use Rattle.colour_laws.proofs.RowEnds.{AreEnds, are_ends}
use Rattle.colour_laws.proofs.Walks.{HasColours, colour_below}
use Rattle.colour_laws.proofs.RowShifts.{not_not}
use Rattle.colour_weights.specs.declared.shadow_walker.ShadowWalker.{ShadowWalker}
use Rattle.cocycle_core.specs.ShadowCocycle.{ShadowCochain, IsShadowCocycle, shadow_value}
use Rattle.colour_weights.specs.Region.{region, height_beside}
use Rattle.colour_weights.specs.ShadowWeight.{shadow_crossing_value, shadow_positive_sum, shadow_negative_sum, shadow_weight, difference}
use Rattle.colour_weights.specs.ShadowWalkSum.{shadow_gain, shadow_walked, shadow_row_weight, shadow_weight_by_rows, region_left, region_start}
use Rattle.cocycle_core.proofs.Mod.{Same, same_turned, same_by_two, same_by_three}
use Rattle.colour_weights.proofs.RowCounts.{total, total_same, total_plus, same_mod, same_minus, sum_total, equal_below, mod_below}
use Rattle.colour_weights.proofs.Longer.{fold_longer}
use Rattle.colour_weights.proofs.ByColumns.{step_at, region_start_below, apart_marks}
use Rattle.colour_weights.proofs.RowTotals.{rightward_low, walked_below}
use Rattle.colour_weights.proofs.ModSums.{plain, by_one, by_three}

-- one item more in a filtered list
pub filter_front : (p : ℕ → Bool) (x : ℕ) (xs : List ℕ) (b : Bool) → p x ≡ b → filter p (x ∷ xs) ≡ cond b (x ∷ filter p xs) (filter p xs)
filter_front p x xs b e = ap (λ t. cond t (x ∷ filter p xs) (filter p xs)) e

-- of n columns from one on, those that cover row r
abbrev covering : Diagram → ℕ → ℕ → ℕ → List ℕ
covering d r from n = filter (λ c. covers d c r) (range_with_len from n)

-- the sums of a row's positive crossings, and of its negative ones
abbrev positives : ShadowCochain → Diagram → List ℕ → ℕ → ℕ → ℕ
positives w d f z r = sum_by (λ c. shadow_crossing_value w d f z c r) (filter (λ c. is_positive d c r) (passed d r))

abbrev negatives : ShadowCochain → Diagram → List ℕ → ℕ → ℕ → ℕ
negatives w d f z r = sum_by (λ c. shadow_crossing_value w d f z c r) (filter (λ c. not (is_positive d c r)) (passed d r))

-- the sums of a row's crossings under columns that go up, and under those that go down
abbrev ups : ShadowCochain → Diagram → List ℕ → ℕ → ℕ → List ℕ → ℕ
ups w d f z r cs = sum_by (λ c. shadow_crossing_value w d f z c r) (filter (is_up d) cs)

abbrev downs : ShadowCochain → Diagram → List ℕ → ℕ → ℕ → List ℕ → ℕ
downs w d f z r cs = sum_by (λ c. shadow_crossing_value w d f z c r) (filter (λ c. not (is_up d c)) cs)

ups_front : (w : ShadowCochain) (d : Diagram) (f : List ℕ) (z r c : ℕ) (cs : List ℕ)
    → ups w d f z r (c ∷ cs) ≡ cond (is_up d c) (shadow_crossing_value w d f z c r) 0 + ups w d f z r cs
ups_front w d f z r c cs = front (is_up d c)
  where
    front : (b : Bool)
        → sum_by (λ c. shadow_crossing_value w d f z c r) (cond b (c ∷ filter (is_up d) cs) (filter (is_up d) cs))
        ≡ cond b (shadow_crossing_value w d f z c r) 0
        + ups w d f z r cs
    front true = sum_by-cons (λ c. shadow_crossing_value w d f z c r) c (filter (is_up d) cs)
    front false = omega arith

downs_front : (w : ShadowCochain) (d : Diagram) (f : List ℕ) (z r c : ℕ) (cs : List ℕ)
    → downs w d f z r (c ∷ cs) ≡ cond (is_up d c) 0 (shadow_crossing_value w d f z c r) + downs w d f z r cs
downs_front w d f z r c cs = front (is_up d c)
  where
    front : (b : Bool)
        → sum_by (λ c. shadow_crossing_value w d f z c r) (cond (not b) (c ∷ filter (λ c. not (is_up d c)) cs) (filter (λ c. not (is_up d c)) cs)) ≡ cond b 0
        (shadow_crossing_value w d f z c r) + downs w d f z r cs
    front true = omega arith
    front false = sum_by-cons (λ c. shadow_crossing_value w d f z c r) c (filter (λ c. not (is_up d c)) cs)

-- one crossing: what it gains, and its term
one_crossing : (w : ShadowCochain) → IsShadowCocycle w → (up : Bool) (u a y : ℕ) → u < w.quandle.order → a < w.quandle.order → y < w.quandle.order
    → Same w.modulus (shadow_gain w up u a y
    + cond up (shadow_value w (cond up (passed_rightward w.quandle up u y) u) (cond up (passed_rightward w.quandle up a y) a) y) 0)
    (cond up 0 (shadow_value w (cond up (passed_rightward w.quandle up u y) u) (cond up (passed_rightward w.quandle up a y) a) y))
one_crossing w cocycle true u a y lu la ly =
    same_minus w.modulus (shadow_value w (back w.quandle u y) (back w.quandle a y) y) (omega (arith, cocycle.least)) (let most =
    cocycle.within (back w.quandle u y) (back w.quandle a y) y (cocycle.quandle.back_within u y lu ly) (cocycle.quandle.back_within a y la ly) ly in
    omega (arith, most))
one_crossing w cocycle false u a y lu la ly = plain (omega arith)

pub rightward_below : (t : Table) → IsQuandle t → (up : Bool) (a y : ℕ) → a < t.order → y < t.order → passed_rightward t up a y < t.order
rightward_below t q true a y la ly = q.back_within a y la ly
rightward_below t q false a y la ly = q.within a y la ly

-- a column without a mark in row r covers a height beside it where it covers the row
pub apart_height : (x o r : ℕ) (b : Bool) → x ≢ r → o ≢ r
    → (nat_lt (span x o).low (cond b r (r + 1)) && nat_le (cond b r (r + 1)) (span x o).high) ≡ lies_within (span x o) r
apart_height x o r true n m = grind (arith, nat_tests, n, m)
apart_height x o r false n m = grind (arith, nat_tests, n, m)

-- a left end covers the height on the row's right-hand side where it goes up
pub left_height : (x o r : ℕ) (b : Bool) → x ≢ o → (b ≡ true → o ≡ r) → (b ≡ false → x ≡ r)
    → (nat_lt (span x o).low (cond b r (r + 1)) && nat_le (cond b r (r + 1)) (span x o).high) ≡ nat_lt x o
left_height x o r true n ring cross = let e : o ≡ r = ring refl in grind (arith, nat_tests, n, e)
left_height x o r false n ring cross = let e : x ≡ r = cross refl in grind (arith, nat_tests, n, e)

-- filters that agree on a range
pub filter_range : (p q : ℕ → Bool) (a n : ℕ) → ((c : ℕ) → c < a + n → p c ≡ q c) → filter p (range_with_len a n) ≡ filter q (range_with_len a n)
filter_range p q a zero same = refl
filter_range p q a (suc n) same =
    ap₂ (λ t l. cond t (a ∷ l) l) (same a (omega arith)) (filter_range p q (a + 1) n (λ c lt. same c (omega (arith, lt))))

-- the region beside row r, left of column c
abbrev beside_row : ShadowCochain → Diagram → List ℕ → ℕ → ℕ → ℕ → ℕ
beside_row w d f z r c = region w.quandle d f z (height_beside d r) c

-- one column further
pub region_next : (t : Table) (d : Diagram) (f : List ℕ) (z h c : ℕ)
    → region t d f z h (c + 1) ≡ cond (covers_height d h c) (under t d f (region t d f z h c) c) (region t d f z h c)
region_next t d f z h c =
    fold_longer (under t d f) z (covers_height d h) 0 c
    ∙ ap (λ i. cond (covers_height d h i) (under t d f (region t d f z h c) i) (region t d f z h c)) (let e : 0 + c ≡ c = omega arith in e)

-- the walk's region behind the left end
region_begins : (w : ShadowCochain) (d : Diagram) → IsGrid d → (f : List ℕ) (z r : ℕ) → r < size d → AreEnds d r
    → beside_row w d f z r ((ends d r).low + 1) ≡ region_start w.quandle d f z r
region_begins w d grid f z r lt known =
    let low : ℕ = (ends d r).low in
    let inside : (ends d r).low < size d = omega (arith, known.ordered, known.within) in
    let way = rightward_low d grid r lt in
    let left : beside_row w d f z r (ends d r).low ≡ region_left w.quandle d f z r =
    ap (fold (under w.quandle d f) z) (filter_range (covers_height d (height_beside d r)) (λ c. covers d c r) 0 (ends d r).low
    (λ c below.
    let marks = apart_marks r (coloured_at c d.x d.o f) (known.others c (omega (arith, below, known.ordered, known.within))
    (λ e. omega (arith, below, e)) (λ e. omega (arith, below, e, known.ordered))) in
    apart_height (slice_index d.x c) (slice_index d.o c) r (is_rightward d r) marks.0 marks.1)) in
    let covered : covers_height d (height_beside d r) (ends d r).low ≡ is_up d (ends d r).low =
    left_height (slice_index d.x (ends d r).low) (slice_index d.o (ends d r).low) r (is_rightward d r)
    (λ e. no_cell_twice d grid (ends d r).low inside e)
    (λ e. eqb-true (slice_index d.o (ends d r).low) r (way ∙ e))
    (λ e. cross_end (slice_index d.x (ends d r).low) (slice_index d.o (ends d r).low) (way ∙ e) known.left) in
    region_next w.quandle d f z (height_beside d r) (ends d r).low
    ∙ ap₂ (λ b v. cond b (under w.quandle d f v (ends d r).low) v) covered left
  where
    cross_end : (x o : ℕ) → (o == r) ≡ false → ((x == r) || (o == r)) ≡ true → x ≡ r
    cross_end x o other end = elim (cases_Bool (x == r)) [
      | inl e ↦ eqb-true x r e
      | inr e ↦ absurd (false≢true (sym (or_from (x == r) (o == r) e other) ∙ end))
    ]

-- from column i on, n columns before the right end
rest_of_row : (w : ShadowCochain) → IsShadowCocycle w → (d : Diagram) (f : List ℕ) → HasColours w.quandle d f → (z r : ℕ) → AreEnds d r
    → (n i : ℕ) (at : ShadowWalker)
    → i + n ≡ (ends d r).high → (ends d r).low < i → at.colour < w.quandle.order → at.region < w.quandle.order
    → at.colour ≡ fold (under w.quandle d f) (slice_index f (ends d r).low) (covering d r ((ends d r).low + 1) (i - ((ends d r).low + 1)))
    → at.region ≡ beside_row w d f z r i
    → Same w.modulus ((fold (step_at w d f) at (covering d r i n)).sum + ups w d f z r (covering d r i n))
    (at.sum + downs w d f z r (covering d r i n))
rest_of_row w cocycle d f has z r known zero i at e low la lv colour place_is = plain refl
rest_of_row w cocycle d f has z r known (suc n) i at e low la lv colour place_is =
    let from : ℕ = (ends d r).low + 1 in
    let lt : i < size d = omega (arith, e, known.within) in
    let ly : slice_index f i < w.quandle.order = colour_below w.quandle d f has i lt in
    let gap : i - ((ends d r).low + 1) + 1 ≡ i + 1 - ((ends d r).low + 1) = omega (arith, low) in
    let place : (ends d r).low + 1 + (i - ((ends d r).low + 1)) ≡ i = omega (arith, low) in
    let next = ap (λ m. fold (under w.quandle d f) (slice_index f (ends d r).low) (covering d r ((ends d r).low + 1) m)) (sym gap)
    ∙ (fold_longer (under w.quandle d f) (slice_index f (ends d r).low) (λ c. covers d c r) ((ends d r).low + 1) (i - ((ends d r).low + 1))
    ∙ ap₂ (λ j b. cond (covers d j r) (under w.quandle d f b j) b) place (sym colour)) in
    let marks = apart_marks r (coloured_at i d.x d.o f) (known.others i lt (λ k. omega (arith, k, low)) (λ k. omega (arith, k, e))) in
    let further : beside_row w d f z r (i + 1) ≡ cond (covers d i r) (under w.quandle d f at.region i) at.region =
    region_next w.quandle d f z (height_beside d r) i
    ∙ ap₂ (λ b v. cond b (under w.quandle d f v i) v)
    (apart_height (slice_index d.x i) (slice_index d.o i) r (is_rightward d r) marks.0 marks.1) (sym place_is) in
    elim (cases_Bool (covers d i r)) [
      | inl covered ↦
          let is : covering d r i (suc n) ≡ i ∷ covering d r (i + 1) n = filter_front (λ c. covers d c r) i (range_with_len (i + 1) n) true covered in
          let lb : passed_rightward w.quandle (is_up d i) at.colour (slice_index f i) < w.quandle.order =
          rightward_below w.quandle cocycle.quandle (is_up d i) at.colour (slice_index f i) la ly in
          let lw : passed_rightward w.quandle (is_up d i) at.region (slice_index f i) < w.quandle.order =
          rightward_below w.quandle cocycle.quandle (is_up d i) at.region (slice_index f i) lv ly in
          let colour' = sym (next ∙ cond-true (covers d i r) (under w.quandle d f at.colour i) at.colour covered) in
          let region' = sym (further ∙ cond-true (covers d i r) (under w.quandle d f at.region i) at.region covered) in
          let rest = rest_of_row w cocycle d f has z r known n (i + 1) (step_at w d f at i) (omega (arith, e)) (omega (arith, low)) lb lw colour' region' in
          let many : i - (ends d r).low - 1 ≡ i - ((ends d r).low + 1) = omega arith in
          let before : walk_to w.quandle d f r i ≡ at.colour =
          ap (λ m. fold (under w.quandle d f) (slice_index f (ends d r).low) (covering d r ((ends d r).low + 1) m)) many ∙ sym colour in
          let beside_is : region w.quandle d f z (height_beside d r) (cond (is_up d i) (i + 1) i)
          ≡ cond (is_up d i) (passed_rightward w.quandle (is_up d i) at.region (slice_index f i)) at.region =
          by_side w d f z r i (is_up d i) (passed_rightward w.quandle (is_up d i) at.region (slice_index f i)) at.region (sym region') (sym place_is) in
          let term : shadow_crossing_value w d f z i r
          ≡ shadow_value w (cond (is_up d i) (passed_rightward w.quandle (is_up d i) at.region (slice_index f i)) at.region)
          (cond (is_up d i) (passed_rightward w.quandle (is_up d i) at.colour (slice_index f i)) at.colour)
          (slice_index f i) =
          ap₂ (λ v b. shadow_value w v (cond (is_up d i) (under w.quandle d f b i) b) (slice_index f i)) beside_is before in
          let one = one_crossing w cocycle (is_up d i) at.region at.colour (slice_index f i) lv la ly in
          let one' : Same w.modulus (shadow_gain w (is_up d i) at.region at.colour (slice_index f i) + cond (is_up d i) (shadow_crossing_value w d f z i r) 0)
          (cond (is_up d i) 0 (shadow_crossing_value w d f z i r)) =
          subst (λ (v : ℕ). Same w.modulus (shadow_gain w (is_up d i) at.region at.colour (slice_index f i) + cond (is_up d i) v 0) (cond (is_up d i) 0 v))
          (sym term)
          one in
          let some : 0 < w.modulus = omega (arith, cocycle.least) in
          let whole : Same w.modulus ((fold (step_at w d f) (step_at w d f at i) (covering d r (i + 1) n)).sum + ups w d f z r (i ∷ covering d r (i + 1) n))
          (at.sum + downs w d f z r (i ∷ covering d r (i + 1) n)) =
          by_three rest (same_mod w.modulus (at.sum + shadow_gain w (is_up d i) at.region at.colour (slice_index f i)) some) one'
          (omega (arith, ups_front w d f z r i (covering d r (i + 1) n), downs_front w d f z r i (covering d r (i + 1) n))) in
          subst (λ (l : List ℕ). Same w.modulus ((fold (step_at w d f) at l).sum + ups w d f z r l) (at.sum + downs w d f z r l)) (sym is) whole
      | inr apart ↦
          let is : covering d r i (suc n) ≡ covering d r (i + 1) n = filter_front (λ c. covers d c r) i (range_with_len (i + 1) n) false apart in
          let colour' = sym (next ∙ cond-false (covers d i r) (under w.quandle d f at.colour i) at.colour apart) in
          let region' = sym (further ∙ cond-false (covers d i r) (under w.quandle d f at.region i) at.region apart) in
          let rest = rest_of_row w cocycle d f has z r known n (i + 1) at (omega (arith, e)) (omega (arith, low)) la lv colour' region' in
          subst (λ (l : List ℕ). Same w.modulus ((fold (step_at w d f) at l).sum + ups w d f z r l) (at.sum + downs w d f z r l)) (sym is) rest
    ]
  where
    by_side : (w : ShadowCochain) (d : Diagram) (f : List ℕ) (z r i : ℕ) (b : Bool) (u v : ℕ) → beside_row w d f z r (i + 1) ≡ u → beside_row w d f z r i ≡ v
        → region w.quandle d f z (height_beside d r) (cond b (i + 1) i) ≡ cond b u v
    by_side w d f z r i true u v one two = one
    by_side w d f z r i false u v one two = two

-- a whole row
whole_row : (w : ShadowCochain) → IsShadowCocycle w → (d : Diagram) → IsGrid d → (f : List ℕ) → HasColours w.quandle d f → (z : ℕ) → z < w.quandle.order
    → (r : ℕ)
    → r < size d → AreEnds d r
    → Same w.modulus ((shadow_walked w d f z r).sum + ups w d f z r (passed d r)) (downs w d f z r (passed d r))
whole_row w cocycle d grid f has z lz r lt known =
    let la : slice_index f (ends d r).low < w.quandle.order = colour_below w.quandle d f has (ends d r).low (omega (arith, known.ordered, known.within)) in
    let lv = region_start_below w cocycle.quandle d f has r known z lz in
    let none : zero ≡ (ends d r).low + 1 - ((ends d r).low + 1) = omega arith in
    let start : slice_index f (ends d r).low ≡ fold (under w.quandle d f) (slice_index f (ends d r).low)
    (covering d r ((ends d r).low + 1) ((ends d r).low + 1 - ((ends d r).low + 1))) =
    ap (λ m. fold (under w.quandle d f) (slice_index f (ends d r).low) (covering d r ((ends d r).low + 1) m)) none in
    let rest = rest_of_row w cocycle d f has z r known ((ends d r).high - (ends d r).low - 1) ((ends d r).low + 1)
    (record { colour = slice_index f (ends d r).low; region = region_start w.quandle d f z r; sum = 0 }) (omega (arith, known.ordered))
    (omega arith) la lv start
    (sym (region_begins w d grid f z r lt known)) in
    by_one rest (omega arith)

-- a crossing is positive where a down column meets a row to the right, or an up column one to the left
pub positive_by_directions : (d : Diagram) (c r : ℕ) → is_positive d c r ≡ cond (is_rightward d r) (not (is_up d c)) (is_up d c)
positive_by_directions d c r = by_way (is_up d c) (is_rightward d r)
  where
    by_way : (up right : Bool)
        → int_lt (pos 0) (cross_product (record { x = pos 0; y = unit up }) (record { x = unit right; y = pos 0 })) ≡ cond right (not up) up
    by_way true true = refl
    by_way true false = refl
    by_way false true = refl
    by_way false false = refl

pub same_filter : (p q : ℕ → Bool) → ((c : ℕ) → p c ≡ q c) → (cs : List ℕ) → filter p cs ≡ filter q cs
same_filter p q same [] = refl
same_filter p q same (c ∷ cs) = ap₂ (λ t l. cond t (c ∷ l) l) (same c) (same_filter p q same cs)

-- the positive and the negative crossings of a row
row_signs : (w : ShadowCochain) → IsShadowCocycle w → (d : Diagram) → IsGrid d → (f : List ℕ) → HasColours w.quandle d f → (z : ℕ) → z < w.quandle.order
    → (r : ℕ) → r < size d → AreEnds d r
    → Same w.modulus (shadow_row_weight w d f z r + negatives w d f z r) (positives w d f z r)
row_signs w cocycle d grid f has z lz r lt known =
    subst (λ (l : List ℕ). Same w.modulus (shadow_row_weight w d f z r + negatives w d f z r) (sum_by (λ c. shadow_crossing_value w d f z c r) l))
    (sym (same_filter (λ c. is_positive d c r) (λ c. cond (is_rightward d r) (not (is_up d c)) (is_up d c)) (λ c. positive_by_directions d c r) (passed d r)))
    (subst (λ (l : List ℕ). Same w.modulus (shadow_row_weight w d f z r + sum_by (λ c. shadow_crossing_value w d f z c r) l)
    (sum_by (λ c. shadow_crossing_value w d f z c r) (filter (λ c. cond (is_rightward d r) (not (is_up d c)) (is_up d c)) (passed d r))))
    (sym (same_filter (λ c. not (is_positive d c r)) (λ c. not (cond (is_rightward d r) (not (is_up d c)) (is_up d c)))
    (λ c. ap not (positive_by_directions d c r)) (passed d r)))
    (by_way (is_rightward d r)))
  where
    some : 0 < w.modulus
    some = omega (arith, cocycle.least)

    by_way : (b : Bool)
        → Same w.modulus
        (cond b (shadow_walked w d f z r).sum ((w.modulus - (shadow_walked w d f z r).sum) % w.modulus) + sum_by (λ c. shadow_crossing_value w d f z c r)
        (filter (λ c. not (cond b (not (is_up d c)) (is_up d c))) (passed d r)))
        (sum_by (λ c. shadow_crossing_value w d f z c r) (filter (λ c. cond b (not (is_up d c)) (is_up d c)) (passed d r)))
    by_way true =
        subst
        (λ (l : List ℕ). Same w.modulus ((shadow_walked w d f z r).sum + sum_by (λ c. shadow_crossing_value w d f z c r) l) (downs w d f z r (passed d r)))
        (same_filter (is_up d) (λ c. not (not (is_up d c))) (λ c. not_not (is_up d c)) (passed d r))
        (whole_row w cocycle d grid f has z lz r lt known)
    by_way false =
        same_by_two w.modulus ((w.modulus - (shadow_walked w d f z r).sum) % w.modulus + (shadow_walked w d f z r).sum) 0 (downs w d f z r (passed d r))
        ((shadow_walked w d f z r).sum + ups w d f z r (passed d r))
        ((w.modulus - (shadow_walked w d f z r).sum) % w.modulus + downs w d f z r (passed d r)) (ups w d f z r (passed d r))
        (same_minus w.modulus (shadow_walked w d f z r).sum some (let below = walked_below w some d f z r in omega (arith, below)))
        (same_turned w.modulus ((shadow_walked w d f z r).sum + ups w d f z r (passed d r)) (downs w d f z r (passed d r))
        (whole_row w cocycle d grid f has z lz r lt known))
        (omega arith)

pub same_difference : (k a b : ℕ) → 0 < k → Same k (difference k a b + b) a
same_difference k a b some =
    same_by_three k ((a + (k - b % k)) % k) (a + (k - b % k)) b (b % k) k 0 (difference k a b + b) a
    (same_mod k (a + (k - b % k)) some) (same_turned k (b % k) b (same_mod k b some)) (record { left = 0; right = 1; equal = omega arith })
    (omega (arith, some))

-- the two weights
pub crossings_are_rows : (w : ShadowCochain) → IsShadowCocycle w → (d : Diagram) → IsGrid d → (f : List ℕ) → HasColours w.quandle d f → (z : ℕ)
    → z < w.quandle.order → shadow_weight w d f z ≡ shadow_weight_by_rows w d f z
crossings_are_rows w cocycle d grid f has z lz =
    let some : 0 < w.modulus = omega (arith, cocycle.least) in
    let n : ℕ = size d in
    let plus : ℕ → ℕ = λ r. positives w d f z r in
    let minus : ℕ → ℕ = λ r. negatives w d f z r in
    let rows = total_same w.modulus (λ r. shadow_row_weight w d f z r + negatives w d f z r) (positives w d f z) (size d)
    (λ r lt. row_signs w cocycle d grid f has z lz r lt (are_ends d grid r lt)) in
    let one = sum_total (shadow_row_weight w d f z) (size d) in
    let two = sum_total (positives w d f z) (size d) in
    let three = sum_total (negatives w d f z) (size d) in
    equal_below w.modulus (shadow_weight w d f z) (shadow_weight_by_rows w d f z)
    (same_by_three w.modulus
    (shadow_weight w d f z + shadow_negative_sum w d f z) (shadow_positive_sum w d f z)
    (total (positives w d f z) (size d)) (total (λ r. shadow_row_weight w d f z r + negatives w d f z r) (size d))
    (sum_by (shadow_row_weight w d f z) (range_with_len 0 (size d))) (shadow_weight_by_rows w d f z)
    (shadow_weight w d f z) (shadow_weight_by_rows w d f z)
    (same_difference w.modulus (shadow_positive_sum w d f z) (shadow_negative_sum w d f z) some)
    (same_turned w.modulus (total (λ r. shadow_row_weight w d f z r + negatives w d f z r) (size d)) (total (positives w d f z) (size d)) rows)
    (same_turned w.modulus (shadow_weight_by_rows w d f z) (sum_by (shadow_row_weight w d f z) (range_with_len 0 (size d)))
    (same_mod w.modulus (sum_by (shadow_row_weight w d f z) (range_with_len 0 (size d))) some))
    (omega (arith, one, two, three, total_plus (λ r. shadow_row_weight w d f z r) (negatives w d f z) (size d))))
    (mod_below w.modulus (shadow_positive_sum w d f z + (w.modulus - shadow_negative_sum w d f z % w.modulus)) some)
    (mod_below w.modulus (sum_by (shadow_row_weight w d f z) (range_with_len 0 (size d))) some)
