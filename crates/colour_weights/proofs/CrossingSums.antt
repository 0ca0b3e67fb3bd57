-- The sum over crossings is the sum over rows.
use Rattle.std.proofs.Common.{◌≡◌, ◌∙◌, ◌<◌, ◌+◌, ◌-◌, ◌%◌, ℕ, zero, suc, List, ◌∷◌, fold, ap, ap₂, sym, refl, subst, arith, inl, inr, cond}
use Rattle.std.specs.Prelude.{Bool, true, false, slice_index, filter}
use Rattle.std.specs.List.{range_with_len, sum_by}
use Rattle.std.proofs.Math.Bool.{not}
use Rattle.std.proofs.lemmas.List.Sums.{sum_by-cons}
use Rattle.std.proofs.lemmas.Bool.{cases_Bool, cond-true, cond-false}
use Rattle.grid_core.specs.Diagram.{Diagram, IsGrid, size}
use Rattle.grid_core.specs.Parts.{ends, covers, is_up, is_rightward}
use Rattle.grid_core.specs.Crossing.{is_positive}
use Rattle.quandle_core.specs.Quandle.{back}
use Rattle.colour_rows.specs.Walk.{under, passed, passed_rightward, walk_to}
use Rattle.colour_laws.proofs.RowEnds.{AreEnds, are_ends}
use Rattle.colour_laws.proofs.Walks.{HasColours, colour_below}
use Rattle.colour_laws.proofs.RowShifts.{not_not}
use Rattle.colour_weights.specs.declared.walker.Walker.{Walker}
use Rattle.cocycle_core.specs.Cocycle.{Cochain, IsCocycle, value}
use Rattle.colour_weights.specs.Weight.{crossing_value, positive_sum, negative_sum, weight}
use Rattle.colour_weights.specs.WalkSum.{gain, walked, row_weight, weight_by_rows}
use Rattle.cocycle_core.proofs.Mod.{Same, same_of, same_turned, same_by, same_by_two, same_by_three}
use Rattle.colour_weights.proofs.RowCounts.{total, total_same, total_plus, same_mod, same_minus, sum_total, equal_below, mod_below}
use Rattle.colour_weights.proofs.Longer.{fold_longer}
use Rattle.colour_weights.proofs.ShadowCrossingSums.{filter_front, rightward_below, positive_by_directions, same_filter, same_difference}
use Rattle.colour_weights.proofs.Walks.{step_at, walked_below}

-- of n columns from one on, those that cover row r
abbrev covering : Diagram → ℕ → ℕ → ℕ → List ℕ
covering d r from n = filter (λ c. covers d c r) (range_with_len from n)

-- the sums of a row's positive crossings, and of its negative ones
abbrev positives : Cochain → Diagram → List ℕ → ℕ → ℕ
positives w d f r = sum_by (λ c. crossing_value w d f c r) (filter (λ c. is_positive d c r) (passed d r))

abbrev negatives : Cochain → Diagram → List ℕ → ℕ → ℕ
negatives w d f r = sum_by (λ c. crossing_value w d f c r) (filter (λ c. not (is_positive d c r)) (passed d r))

-- the sums of a row's crossings under columns that go up, and under those that go down
abbrev ups : Cochain → Diagram → List ℕ → ℕ → List ℕ → ℕ
ups w d f r cs = sum_by (λ c. crossing_value w d f c r) (filter (is_up d) cs)

abbrev downs : Cochain → Diagram → List ℕ → ℕ → List ℕ → ℕ
downs w d f r cs = sum_by (λ c. crossing_value w d f c r) (filter (λ c. not (is_up d c)) cs)

ups_front : (w : Cochain) (d : Diagram) (f : List ℕ) (r c : ℕ) (cs : List ℕ)
    → ups w d f r (c ∷ cs) ≡ cond (is_up d c) (crossing_value w d f c r) 0 + ups w d f r cs
ups_front w d f r c cs = front (is_up d c)
  where
    front : (b : Bool)
        → sum_by (λ c. crossing_value w d f c r) (cond b (c ∷ filter (is_up d) cs) (filter (is_up d) cs)) ≡ cond b (crossing_value w d f c r) 0 + ups w d f r cs
    front true = sum_by-cons (λ c. crossing_value w d f c r) c (filter (is_up d) cs)
    front false = omega arith

downs_front : (w : Cochain) (d : Diagram) (f : List ℕ) (r c : ℕ) (cs : List ℕ)
    → downs w d f r (c ∷ cs) ≡ cond (is_up d c) 0 (crossing_value w d f c r) + downs w d f r cs
downs_front w d f r c cs = front (is_up d c)
  where
    front : (b : Bool)
        → sum_by (λ c. crossing_value w d f c r) (cond (not b) (c ∷ filter (λ c. not (is_up d c)) cs) (filter (λ c. not (is_up d c)) cs)) ≡ cond b 0
        (crossing_value w d f c r) + downs w d f r cs
    front true = omega arith
    front false = sum_by-cons (λ c. crossing_value w d f c r) c (filter (λ c. not (is_up d c)) cs)

-- one crossing: what it gains, and its term
one_crossing : (w : Cochain) → IsCocycle w → (up : Bool) (a y : ℕ) → a < w.quandle.order → y < w.quandle.order
    → Same w.modulus (gain w up a y + cond up (value w (cond up (passed_rightward w.quandle up a y) a) y) 0)
    (cond up 0 (value w (cond up (passed_rightward w.quandle up a y) a) y))
one_crossing w cocycle true a y la ly =
    same_minus w.modulus (value w (back w.quandle a y) y) (omega (arith, cocycle.least)) (let most =
    cocycle.within (back w.quandle a y) y (cocycle.quandle.back_within a y la ly) ly in omega (arith, most))
one_crossing w cocycle false a y la ly = same_of w.modulus (value w a y + 0) (value w a y) (omega arith)

-- from column i on, n columns before the right end
rest_of_row : (w : Cochain) → IsCocycle w → (d : Diagram) (f : List ℕ) → HasColours w.quandle d f → (r : ℕ) → AreEnds d r → (n i : ℕ) (at : Walker)
    → i + n ≡ (ends d r).high → (ends d r).low < i → at.colour < w.quandle.order
    → at.colour ≡ fold (under w.quandle d f) (slice_index f (ends d r).low) (covering d r ((ends d r).low + 1) (i - ((ends d r).low + 1)))
    → Same w.modulus ((fold (step_at w d f) at (covering d r i n)).sum + ups w d f r (covering d r i n))
    (at.sum + downs w d f r (covering d r i n))
rest_of_row w cocycle d f has r known zero i at e low la colour = same_of w.modulus (at.sum + 0) (at.sum + 0) refl
rest_of_row w cocycle d f has r known (suc n) i at e low la colour =
    let from : ℕ = (ends d r).low + 1 in
    let lt : i < size d = omega (arith, e, known.within) in
    let ly : slice_index f i < w.quandle.order = colour_below w.quandle d f has i lt in
    let gap : i - ((ends d r).low + 1) + 1 ≡ i + 1 - ((ends d r).low + 1) = omega (arith, low) in
    let place : (ends d r).low + 1 + (i - ((ends d r).low + 1)) ≡ i = omega (arith, low) in
    let next = ap (λ m. fold (under w.quandle d f) (slice_index f (ends d r).low) (covering d r ((ends d r).low + 1) m)) (sym gap)
    ∙ (fold_longer (under w.quandle d f) (slice_index f (ends d r).low) (λ c. covers d c r) ((ends d r).low + 1) (i - ((ends d r).low + 1))
    ∙ ap₂ (λ j b. cond (covers d j r) (under w.quandle d f b j) b) place (sym colour)) in
    elim (cases_Bool (covers d i r)) [
      | inl covered ↦
          let is : covering d r i (suc n) ≡ i ∷ covering d r (i + 1) n = filter_front (λ c. covers d c r) i (range_with_len (i + 1) n) true covered in
          let then : Walker = step_at w d f at i in
          let lb : passed_rightward w.quandle (is_up d i) at.colour (slice_index f i) < w.quandle.order =
          rightward_below w.quandle cocycle.quandle (is_up d i) at.colour (slice_index f i) la ly in
          let colour' = sym (next ∙ cond-true (covers d i r) (under w.quandle d f at.colour i) at.colour covered) in
          let rest = rest_of_row w cocycle d f has r known n (i + 1) (step_at w d f at i) (omega (arith, e)) (omega (arith, low)) lb colour' in
          let many : i - (ends d r).low - 1 ≡ i - ((ends d r).low + 1) = omega arith in
          let before : walk_to w.quandle d f r i ≡ at.colour =
          ap (λ m. fold (under w.quandle d f) (slice_index f (ends d r).low) (covering d r ((ends d r).low + 1) m)) many ∙ sym colour in
          let term : crossing_value w d f i r ≡ value w (cond (is_up d i) (passed_rightward w.quandle (is_up d i) at.colour (slice_index f i)) at.colour)
          (slice_index f i) =
          ap (λ b. value w (cond (is_up d i) (under w.quandle d f b i) b) (slice_index f i)) before in
          let one = one_crossing w cocycle (is_up d i) at.colour (slice_index f i) la ly in
          let one' : Same w.modulus (gain w (is_up d i) at.colour (slice_index f i) + cond (is_up d i) (crossing_value w d f i r) 0)
          (cond (is_up d i) 0 (crossing_value w d f i r)) =
          subst (λ (v : ℕ). Same w.modulus (gain w (is_up d i) at.colour (slice_index f i) + cond (is_up d i) v 0) (cond (is_up d i) 0 v)) (sym term) one in
          let some : 0 < w.modulus = omega (arith, cocycle.least) in
          let whole = same_by_three w.modulus
          ((fold (step_at w d f) (step_at w d f at i) (covering d r (i + 1) n)).sum + ups w d f r (covering d r (i + 1) n))
          ((at.sum + gain w (is_up d i) at.colour (slice_index f i)) % w.modulus + downs w d f r (covering d r (i + 1) n))
          ((at.sum + gain w (is_up d i) at.colour (slice_index f i)) % w.modulus) (at.sum + gain w (is_up d i) at.colour (slice_index f i))
          (gain w (is_up d i) at.colour (slice_index f i) + cond (is_up d i) (crossing_value w d f i r) 0) (cond (is_up d i) 0 (crossing_value w d f i r))
          ((fold (step_at w d f) (step_at w d f at i) (covering d r (i + 1) n)).sum + ups w d f r (i ∷ covering d r (i + 1) n))
          (at.sum + downs w d f r (i ∷ covering d r (i + 1) n))
          rest (same_mod w.modulus (at.sum + gain w (is_up d i) at.colour (slice_index f i)) some) one'
          (omega (arith, ups_front w d f r i (covering d r (i + 1) n), downs_front w d f r i (covering d r (i + 1) n))) in
          subst (λ (l : List ℕ). Same w.modulus ((fold (step_at w d f) at l).sum + ups w d f r l) (at.sum + downs w d f r l)) (sym is) whole
      | inr apart ↦
          let is : covering d r i (suc n) ≡ covering d r (i + 1) n = filter_front (λ c. covers d c r) i (range_with_len (i + 1) n) false apart in
          let colour' = sym (next ∙ cond-false (covers d i r) (under w.quandle d f at.colour i) at.colour apart) in
          let rest = rest_of_row w cocycle d f has r known n (i + 1) at (omega (arith, e)) (omega (arith, low)) la colour' in
          subst (λ (l : List ℕ). Same w.modulus ((fold (step_at w d f) at l).sum + ups w d f r l) (at.sum + downs w d f r l)) (sym is) rest
    ]

-- a whole row
whole_row : (w : Cochain) → IsCocycle w → (d : Diagram) (f : List ℕ) → HasColours w.quandle d f → (r : ℕ) → AreEnds d r
    → Same w.modulus ((walked w d f r).sum + ups w d f r (passed d r)) (downs w d f r (passed d r))
whole_row w cocycle d f has r known =
    let la : slice_index f (ends d r).low < w.quandle.order = colour_below w.quandle d f has (ends d r).low (omega (arith, known.ordered, known.within)) in
    let none : zero ≡ (ends d r).low + 1 - ((ends d r).low + 1) = omega arith in
    let start : slice_index f (ends d r).low ≡ fold (under w.quandle d f) (slice_index f (ends d r).low)
    (covering d r ((ends d r).low + 1) ((ends d r).low + 1 - ((ends d r).low + 1))) =
    ap (λ m. fold (under w.quandle d f) (slice_index f (ends d r).low) (covering d r ((ends d r).low + 1) m)) none in
    let rest = rest_of_row w cocycle d f has r known ((ends d r).high - (ends d r).low - 1) ((ends d r).low + 1)
    (record { colour = slice_index f (ends d r).low; sum = 0 }) (omega (arith, known.ordered)) (omega arith) la start in
    same_by w.modulus ((walked w d f r).sum + ups w d f r (passed d r)) (0 + downs w d f r (passed d r)) ((walked w d f r).sum + ups w d f r (passed d r))
    (downs w d f r (passed d r)) rest (omega arith)

-- the positive and the negative crossings of a row
row_signs : (w : Cochain) → IsCocycle w → (d : Diagram) (f : List ℕ) → HasColours w.quandle d f → (r : ℕ) → AreEnds d r
    → Same w.modulus (row_weight w d f r + negatives w d f r) (positives w d f r)
row_signs w cocycle d f has r known =
    subst (λ (l : List ℕ). Same w.modulus (row_weight w d f r + negatives w d f r) (sum_by (λ c. crossing_value w d f c r) l))
    (sym (same_filter (λ c. is_positive d c r) (λ c. cond (is_rightward d r) (not (is_up d c)) (is_up d c)) (λ c. positive_by_directions d c r) (passed d r)))
    (subst (λ (l : List ℕ). Same w.modulus (row_weight w d f r + sum_by (λ c. crossing_value w d f c r) l)
    (sum_by (λ c. crossing_value w d f c r) (filter (λ c. cond (is_rightward d r) (not (is_up d c)) (is_up d c)) (passed d r))))
    (sym (same_filter (λ c. not (is_positive d c r)) (λ c. not (cond (is_rightward d r) (not (is_up d c)) (is_up d c)))
    (λ c. ap not (positive_by_directions d c r)) (passed d r)))
    (by_way (is_rightward d r)))
  where
    some : 0 < w.modulus
    some = omega (arith, cocycle.least)

    by_way : (b : Bool)
        → Same w.modulus (cond b (walked w d f r).sum ((w.modulus - (walked w d f r).sum) % w.modulus) + sum_by (λ c. crossing_value w d f c r)
        (filter (λ c. not (cond b (not (is_up d c)) (is_up d c))) (passed d r)))
        (sum_by (λ c. crossing_value w d f c r) (filter (λ c. cond b (not (is_up d c)) (is_up d c)) (passed d r)))
    by_way true =
        subst (λ (l : List ℕ). Same w.modulus ((walked w d f r).sum + sum_by (λ c. crossing_value w d f c r) l) (downs w d f r (passed d r)))
        (same_filter (is_up d) (λ c. not (not (is_up d c))) (λ c. not_not (is_up d c)) (passed d r))
        (whole_row w cocycle d f has r known)
    by_way false =
        same_by_two w.modulus ((w.modulus - (walked w d f r).sum) % w.modulus + (walked w d f r).sum) 0 (downs w d f r (passed d r))
        ((walked w d f r).sum + ups w d f r (passed d r))
        ((w.modulus - (walked w d f r).sum) % w.modulus + downs w d f r (passed d r)) (ups w d f r (passed d r))
        (same_minus w.modulus (walked w d f r).sum some (let below = walked_below w some d f r in omega (arith, below)))
        (same_turned w.modulus ((walked w d f r).sum + ups w d f r (passed d r)) (downs w d f r (passed d r)) (whole_row w cocycle d f has r known))
        (omega arith)

-- the two weights
pub crossings_are_rows : (w : Cochain) → IsCocycle w → (d : Diagram) → IsGrid d → (f : List ℕ) → HasColours w.quandle d f → weight w d f ≡ weight_by_rows w d f
crossings_are_rows w cocycle d grid f has =
    let some : 0 < w.modulus = omega (arith, cocycle.least) in
    let n : ℕ = size d in
    let plus : ℕ → ℕ = λ r. positives w d f r in
    let minus : ℕ → ℕ = λ r. negatives w d f r in
    let rows = total_same w.modulus (λ r. row_weight w d f r + negatives w d f r) (positives w d f) (size d)
    (λ r lt. row_signs w cocycle d f has r (are_ends d grid r lt)) in
    let one = sum_total (row_weight w d f) (size d) in
    let two = sum_total (positives w d f) (size d) in
    let three = sum_total (negatives w d f) (size d) in
    equal_below w.modulus (weight w d f) (weight_by_rows w d f)
    (same_by_three w.modulus
    (weight w d f + negative_sum w d f) (positive_sum w d f)
    (total (positives w d f) (size d)) (total (λ r. row_weight w d f r + negatives w d f r) (size d))
    (sum_by (row_weight w d f) (range_with_len 0 (size d))) (weight_by_rows w d f)
    (weight w d f) (weight_by_rows w d f)
    (same_difference w.modulus (positive_sum w d f) (negative_sum w d f) some)
    (same_turned w.modulus (total (λ r. row_weight w d f r + negatives w d f r) (size d)) (total (positives w d f) (size d)) rows)
    (same_turned w.modulus (weight_by_rows w d f) (sum_by (row_weight w d f) (range_with_len 0 (size d)))
    (same_mod w.modulus (sum_by (row_weight w d f) (range_with_len 0 (size d))) some))
    (omega (arith, one, two, three, total_plus (λ r. row_weight w d f r) (negatives w d f) (size d))))
    (mod_below w.modulus (positive_sum w d f + (w.modulus - negative_sum w d f % w.modulus)) some)
    (mod_below w.modulus (sum_by (row_weight w d f) (range_with_len 0 (size d))) some)
