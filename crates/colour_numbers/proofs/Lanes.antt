-- Lanes within their diagram, and their weights, which are those of the rows.
use Rattle.std.proofs.Common.{◌≡◌, ◌<◌, ◌≤◌, ◌+◌, ◌-◌, ◌%◌, ◌++◌, ◌∙◌, ℕ, List, [], ◌∷◌, cond, length, map, filter, fold, take, get_or, refl, sym, ap, ap₂}
use Rattle.std.proofs.Common.{subst, arith, add-one}
use Rattle.std.specs.Prelude.{slice_index, if◌then◌else◌}
use Rattle.std.specs.List.{All, range_with_len, sum_by}
use Rattle.std.proofs.lemmas.List.{map-append}
use Rattle.std.proofs.lemmas.List.Elements.{filter-append, All-map, All-filter}
use Rattle.std.proofs.lemmas.List.Folds.{fold-map}
use Rattle.std.proofs.lemmas.List.FromFn.{get_or-range_with_len, length-range_with_len, get_or-map-range_with_len, length-map-range_with_len}
use Rattle.std.proofs.lemmas.List.Sums.{fold_more, sum_by-cons, sum_by_push}
use Rattle.std.proofs.Math.Seq.{take-suc}
use Rattle.grid_core.specs.Diagram.{Diagram, IsGrid, size}
use Rattle.grid_core.specs.Parts.{covers, ends, is_up, is_rightward}
use Rattle.grid_core.proofs.Ends.{has_ends}
use Rattle.quandle_core.specs.Quandle.{Table}
use Rattle.colour_rows.specs.declared.equation.Pass.{Pass}
use Rattle.colour_rows.specs.Walk.{under, passed_rightward}
use Rattle.colour_rows.proofs.Ranges.{range_longer}
use Rattle.colour_rows.proofs.Equations.{pass_of, pass_map}
use Rattle.colour_weights.specs.declared.shadow_walker.ShadowWalker.{ShadowWalker}
use Rattle.cocycle_core.specs.ShadowCocycle.{ShadowCochain}
use Rattle.colour_weights.specs.ShadowWalkSum as walk_sum
use Rattle.colour_weights.specs.ShadowWalkSum.{shadow_stepped, shadow_row_weight, shadow_weight_by_rows}
use Rattle.colour_weights.proofs.RowCounts.{add_mod}
use Rattle.colour_numbers.specs.declared.lane.Lane.{Lane}
use Rattle.colour_numbers.specs.Lanes.{covering, lane, lane_region_left, lane_region_start, lane_walked, lane_weight, weight_by_lanes}
use Rattle.colour_numbers.specs.Weighing.{LaneIsWithin}

-- one column more
pub covering_more : (d : Diagram) (r from to : ℕ) → from ≤ to → covering d r from (to + 1) ≡ covering d r from to ++ cond (covers d to r) (pass_of d to ∷ []) []
covering_more d r from to le =
    let short = range_with_len from (to - from) in
    let longer : to + 1 - from ≡ to - from + 1 = omega arith in
    let last : from + (to - from) ≡ to = omega arith in
    ap (λ (n : ℕ). map (pass_of d) (filter (λ c. covers d c r) (range_with_len from n))) longer
    ∙ (ap (λ (cs : List ℕ). map (pass_of d) (filter (λ c. covers d c r) cs)) (range_longer from (to - from))
    ∙ (ap (λ (c : ℕ). map (pass_of d) (filter (λ c. covers d c r) (short ++ c ∷ []))) last
    ∙ (ap (map (pass_of d)) (filter-append (λ c. covers d c r) short (to ∷ []))
    ∙ (map-append (pass_of d) (filter (λ c. covers d c r) short) (filter (λ c. covers d c r) (to ∷ []))
    ∙ ap (λ ps. map (pass_of d) (filter (λ c. covers d c r) short) ++ ps) (pass_map d to (covers d to r))))))

-- none yet
pub covering_none : (d : Diagram) (r from : ℕ) → [] ≡ covering d r from from
covering_none d r from =
    let none : 0 ≡ from - from = omega arith in ap (λ (n : ℕ). map (pass_of d) (filter (λ c. covers d c r) (range_with_len from n))) none

covering_below : (d : Diagram) (r from to n : ℕ) → to ≤ n → All (λ (p : Pass). p.column < n) (covering d r from to)
covering_below d r from to n le =
    let between : All (λ c. c < n) (range_with_len from (to - from)) =
    λ i e lt. let short : i < to - from = omega (arith, lt, length-range_with_len from (to - from)) in
    let is = get_or-range_with_len from (to - from) i e short in omega arith in
    All-map (λ (p : Pass). p.column < n) (pass_of d) (filter (λ c. covers d c r) (range_with_len from (to - from)))
    (All-filter (λ c. covers d c r) (λ c. c < n) (range_with_len from (to - from)) between)

pub lane_within : (d : Diagram) → IsGrid d → (r : ℕ) → r < size d → LaneIsWithin (size d) (lane d r)
lane_within d grid r lt =
    let e = has_ends d grid r lt in
    record {
      left = omega (arith, e.ordered, e.within);
      before = covering_below d r 0 (ends d r).low (size d) (omega (arith, e.ordered, e.within));
      passed = covering_below d r ((ends d r).low + 1) (ends d r).high (size d) (omega (arith, e.within));
    }

pub lanes_within : (d : Diagram) → IsGrid d → (lanes : List Lane) → lanes ≡ map (lane d) (range_with_len 0 (size d)) → All (LaneIsWithin (size d)) lanes
lanes_within d grid lanes are =
    subst (All (LaneIsWithin (size d))) (sym are) (λ i e at.
    let lt : i < size d = omega (arith, at, length-map-range_with_len (lane d) 0 (size d)) in
    subst (LaneIsWithin (size d)) (sym (get_or-map-range_with_len (lane d) 0 (size d) i i e lt (omega arith))) (lane_within d grid i lt))

-- one of the lanes
pub lane_there : (d : Diagram) (lanes : List Lane) (r : ℕ) (x : Lane) → lanes ≡ map (lane d) (range_with_len 0 (size d)) → r < size d
    → get_or lanes r x ≡ lane d r
lane_there d lanes r x are lt = ap (λ (xs : List Lane). get_or xs r x) are ∙ get_or-map-range_with_len (lane d) 0 (size d) r r x lt (omega arith)

pub lane_inside : (d : Diagram) (lanes : List Lane) (r : ℕ) → lanes ≡ map (lane d) (range_with_len 0 (size d)) → r < size d → r < length lanes
lane_inside d lanes r are lt = omega (arith, ap length are, length-map-range_with_len (lane d) 0 (size d))

-- ---- weights

region_left_is : (t : Table) (d : Diagram) (f : List ℕ) (u r : ℕ) → lane_region_left t (lane d r) f u ≡ walk_sum.region_left t d f u r
region_left_is t d f u r =
    let whole : (ends d r).low - 0 ≡ (ends d r).low = omega arith in
    fold-map (λ (w : ℕ) (p : Pass). passed_rightward t p.up w (slice_index f p.column)) (pass_of d) u
    (filter (λ c. covers d c r) (range_with_len 0 ((ends d r).low - 0)))
    ∙ ap (λ (n : ℕ). fold (under t d f) u (filter (λ c. covers d c r) (range_with_len 0 n))) whole

region_start_is : (t : Table) (d : Diagram) (f : List ℕ) (u r : ℕ) → lane_region_start t (lane d r) f u ≡ walk_sum.region_start t d f u r
region_start_is t d f u r =
    ap (λ (w : ℕ). if is_up d (ends d r).low then passed_rightward t (is_up d (ends d r).low) w (slice_index f (ends d r).low) else w)
    (region_left_is t d f u r)

walked_is : (t : ShadowCochain) (d : Diagram) (f : List ℕ) (u r : ℕ) → lane_walked t (lane d r) f u ≡ walk_sum.shadow_walked t d f u r
walked_is t d f u r =
    let step : ShadowWalker → ℕ → ShadowWalker = λ at c. shadow_stepped t (is_up d c) at (slice_index f c) in
    let start : ℕ → ShadowWalker = λ w. record { colour = slice_index f (ends d r).low; region = w; sum = 0 } in
    let gap : (ends d r).high - ((ends d r).low + 1) ≡ (ends d r).high - (ends d r).low - 1 = omega arith in
    fold-map (λ (at : ShadowWalker) (p : Pass). shadow_stepped t p.up at (slice_index f p.column)) (pass_of d)
    (start (lane_region_start t.quandle (lane d r) f u))
    (filter (λ c. covers d c r) (range_with_len ((ends d r).low + 1) ((ends d r).high - ((ends d r).low + 1))))
    ∙ (ap (λ (w : ℕ). fold step (start w) (filter (λ c. covers d c r) (range_with_len ((ends d r).low + 1) ((ends d r).high - ((ends d r).low + 1)))))
    (region_start_is t.quandle d f u r)
    ∙ ap (λ (n : ℕ). fold step (start (walk_sum.region_start t.quandle d f u r)) (filter (λ c. covers d c r) (range_with_len ((ends d r).low + 1) n))) gap)

lane_weight_is : (t : ShadowCochain) (d : Diagram) (f : List ℕ) (u r : ℕ) → lane_weight t (lane d r) f u ≡ shadow_row_weight t d f u r
lane_weight_is t d f u r =
    ap (λ (at : ShadowWalker). if is_rightward d r then at.sum else (t.modulus - at.sum) % t.modulus) (walked_is t d f u r)

sum_is : (t : ShadowCochain) (d : Diagram) (f : List ℕ) (u : ℕ) (rs : List ℕ)
    → sum_by (λ l. lane_weight t l f u) (map (lane d) rs) ≡ sum_by (shadow_row_weight t d f u) rs
sum_is t d f u [] = refl
sum_is t d f u (r ∷ rs) =
    let one = sum_by-cons (λ l. lane_weight t l f u) (lane d r) (map (lane d) rs) in
    let other = sum_by-cons (shadow_row_weight t d f u) r rs in
    omega (arith, one, other, lane_weight_is t d f u r, sum_is t d f u rs)

-- the weight by the lanes of a diagram
pub weight_is : (t : ShadowCochain) (d : Diagram) (lanes : List Lane) (f : List ℕ) (u : ℕ) → lanes ≡ map (lane d) (range_with_len 0 (size d))
    → weight_by_lanes t lanes f u ≡ shadow_weight_by_rows t d f u
weight_is t d lanes f u are =
    ap (λ (ls : List Lane). sum_by (λ l. lane_weight t l f u) ls % t.modulus) are
    ∙ ap (λ (n : ℕ). n % t.modulus) (sum_is t d f u (range_with_len 0 (size d)))

-- ---- as loops go

-- a walker behind one column more
pub walked_more : (t : ShadowCochain) (f : List ℕ) (start : ShadowWalker) (items slice : List Pass) (i : ℕ) (p : Pass) (at next : ShadowWalker) → slice ≡ items
    → i < length slice → at ≡ fold (λ (at : ShadowWalker) (p : Pass). shadow_stepped t p.up at (get_or f p.column 0)) start (take i items)
    → next ≡ shadow_stepped t (get_or slice i p).up at (get_or f (get_or slice i p).column 0)
    → next ≡ fold (λ (at : ShadowWalker) (p : Pass). shadow_stepped t p.up at (get_or f p.column 0)) start (take (i + 1) items)
walked_more t f start items slice i p at next same lt so_far is =
    let long = ap (λ (xs : List Pass). length xs) same in
    is ∙ (ap (λ (xs : List Pass). shadow_stepped t (get_or xs i p).up at (get_or f (get_or xs i p).column 0)) same
    ∙ (ap (λ (w : ShadowWalker). shadow_stepped t (get_or items i p).up w (get_or f (get_or items i p).column 0)) so_far
    ∙ sym (fold_more (λ (at : ShadowWalker) (p : Pass). shadow_stepped t p.up at (get_or f p.column 0)) start items i p (omega (arith, lt, long)))))

-- the weight of one lane more
pub weights_more : (weigh : Lane → ℕ) (lanes : List Lane) (i k so_far one sum : ℕ) (x : Lane) → 0 < k → i < length lanes → x ≡ get_or lanes i x
    → so_far ≡ sum_by weigh (take i lanes) % k → one ≡ weigh x → sum ≡ (so_far + one) % k → sum ≡ sum_by weigh (take (i + 1) lanes) % k
weights_more weigh lanes i k so_far one sum x some lt at before here is =
    let longer : take (i + 1) lanes ≡ take i lanes ++ x ∷ [] = ap (λ (n : ℕ). take n lanes) (add-one i)
    ∙ (take-suc lanes i x lt ∙ ap (λ (y : Lane). take i lanes ++ y ∷ []) (sym at)) in
    is ∙ (ap₂ (λ (a b : ℕ). (a + b) % k) before here
    ∙ (add_mod k (sum_by weigh (take i lanes)) (weigh x) some
    ∙ ap (λ (n : ℕ). n % k) (sym (ap (sum_by weigh) longer ∙ sum_by_push weigh (take i lanes) x))))
