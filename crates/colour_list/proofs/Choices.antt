-- The sweep holds at most as many lists as choices of a colour for each bottom among the rows below.
use Rattle.std.proofs.Common.{◌≡◌, ◌<◌, ◌≤◌, ◌+◌, ◌*◌, ◌^◌, ◌==◌, ◌&&◌, ◌++◌, ◌∙◌, inl, inr, ℕ, zero, suc, List, [], ◌∷◌, Bool, true, false, cond, length, map}
use Rattle.std.proofs.Common.{set, take, replicate, count_by, refl, sym, ap, ap₂, subst, arith, add-one, zero-add}
use Rattle.std.specs.List.{range_with_len, flat_map, All}
use Rattle.std.proofs.Math.Nat.{pow-zero, pow-suc, zero-mul, suc-mul, mul-le-mul_right, le-mul_of_pos_right}
use Rattle.std.proofs.lemmas.Bool.{cases_lt, leb-true}
use Rattle.std.proofs.lemmas.List.{length-append, length-map}
use Rattle.std.proofs.lemmas.List.Sums.{length-filter, count_by-le-length}
use Rattle.std.proofs.lemmas.List.FromFn.{length-map-range_with_len}
use Rattle.arrayvec.specs.ArrayVec.{ArrayVec}
use Rattle.grid_core.specs.declared.grid.TheConstants.{MAX_SIZE}
use Rattle.grid_core.specs.declared.mark.Kind.TheVariants.{Cross, Ring}
use Rattle.grid_core.specs.Diagram.{Diagram, IsGrid, size}
use Rattle.grid_core.specs.Span.{span}
use Rattle.grid_core.specs.Parts.{bottoms, column_of, is_bottom}
use Rattle.quandle_core.specs.Quandle.{Table, IsQuandle}
use Rattle.colour_rows.specs.Colouring.{AreColours, IsColouring, is_colouring}
use Rattle.colour_rows.specs.Walk.{walk, closes}
use Rattle.grid_core.proofs.Ends.{left, right, low, span_low, span_high}
use Rattle.colour_rows.proofs.Ranges.{range_longer}
use Rattle.colour_rows.proofs.Walks.{walk_back}
use Rattle.colour_rows.proofs.Colourings.{coloured}
use Rattle.colour_list.specs.declared.limits.TheConstants.{MAX_COLOURINGS}
use Rattle.colour_list.specs.Fits.{fits}
use Rattle.colour_list.specs.Listing.{colourings, lists_of, times}
use Rattle.colour_list.specs.Level.{spread, IsLevelAt}
use Rattle.colour_list.proofs.Counts.{count-cons, count-append}
use Rattle.colour_list.proofs.Sweep.{row_step, row_level, first_level}
use Rattle.colour_list.proofs.Order.{came}
use Rattle.colour_list.proofs.Cut.{cut_once, listed_once, listed_only}
use Rattle.colour_list.proofs.Fewer.{fewer}
use Rattle.colour_list.proofs.RowSteps.{level_colours, both_begin, right_begins, left_begins, none_begins}

-- the level before row r
abbrev pub swept : Table → Diagram → ℕ → List (List ℕ)
swept t d zero = replicate MAX_SIZE 0 ∷ []
swept t d (suc r) = row_step t d r (swept t d r)

pub swept_level : (t : Table) (d : Diagram) → IsQuandle t → IsGrid d → (r : ℕ) → r ≤ size d → IsLevelAt t d r (swept t d r)
swept_level t d q grid zero le = first_level t d (omega (arith, q.least))
swept_level t d q grid (suc r) le =
    subst (λ (k : ℕ). IsLevelAt t d k (swept t d (suc r))) (add-one r)
    (row_level t d q grid r (omega arith) (swept t d r) (swept_level t d q grid r (omega arith)))

-- each list of a level gives as many as there are colours
length_spread : (q c : ℕ) (level : List (List ℕ)) → length (flat_map (spread q c) level) ≡ length level * q
length_spread q c [] = sym (zero-mul q)
length_spread q c (f ∷ level) =
    let here : length (spread q c f) ≡ q = length-map-range_with_len (set f c) 0 q in
    let rest = length_spread q c level in
    let more = suc-mul (length level) q in
    length-append (spread q c f) (flat_map (spread q c) level) ∙ omega arith

-- where the columns of both ends begin in a row, it is a bottom
both_ends : (p : ℕ → Bool) (a b : ℕ) → p (span a b).low ≡ true → p (span a b).high ≡ true → (p a && p b) ≡ true
both_ends p a b at_low at_high =
    let l = span_low a b in
    let h = span_high a b in
    elim (cases_lt a b) [
      | inl lt ↦ ap₂ (λ s t. s && t) (ap p (omega arith) ∙ at_low) (ap p (omega arith) ∙ at_high)
      | inr le ↦ ap₂ (λ s t. s && t) (ap p (omega arith) ∙ at_high) (ap p (omega arith) ∙ at_low)
    ]

bottom_here : (d : Diagram) (r : ℕ) → (low d (left d r) == r) ≡ true → (low d (right d r) == r) ≡ true → is_bottom d r ≡ true
bottom_here d r = both_ends (λ c. low d c == r) (column_of Cross d r) (column_of Ring d r)

-- a row's choices: the order at a bottom, else 1
abbrev pub choices : Table → Diagram → ℕ → ℕ
choices t d r = cond (is_bottom d r) t.order 1

at_least_one : (q n : ℕ) (b : Bool) → 1 ≤ q → n ≤ n * cond b q 1
at_least_one q n true some = le-mul_of_pos_right n some
at_least_one q n false some = omega arith

row_length_by : (t : Table) (d : Diagram) → IsQuandle t → IsGrid d → (r : ℕ) → r < size d → (level : List (List ℕ)) → All (AreColours MAX_SIZE t.order) level
    → (a b : Bool) → (low d (left d r) == r) ≡ a → (low d (right d r) == r) ≡ b → length (row_step t d r level) ≤ length level * choices t d r
row_length_by t d q grid r lt level colours true true is_left is_right =
    let wide = flat_map (spread t.order (left d r)) level in
    let step = ap length (both_begin t d q grid r lt level colours is_left is_right)
    ∙ (length-map wide (λ f. set f (right d r) (walk t d f r)) ∙ length_spread t.order (left d r) level) in
    let here : length level * choices t d r ≡ length level * t.order = ap (λ (b : Bool). length level * cond b t.order 1) (bottom_here d r is_left is_right) in
    omega arith
row_length_by t d q grid r lt level colours true false is_left is_right =
    let step = ap length (left_begins t d q grid r lt level colours is_left is_right) ∙ length-map level (λ f. set f (left d r) (walk_back t d f r)) in
    let more = at_least_one t.order (length level) (is_bottom d r) q.least in
    omega arith
row_length_by t d q grid r lt level colours false true is_left is_right =
    let step = ap length (right_begins t d q grid r lt level colours is_left is_right) ∙ length-map level (λ f. set f (right d r) (walk t d f r)) in
    let more = at_least_one t.order (length level) (is_bottom d r) q.least in
    omega arith
row_length_by t d q grid r lt level colours false false is_left is_right =
    let step = ap length (none_begins t d r level is_left is_right) ∙ length-filter (λ f. closes t d f r) level in
    let passing = count_by-le-length (λ f. closes t d f r) level in
    let more = at_least_one t.order (length level) (is_bottom d r) q.least in
    omega arith

-- the number of bottoms among the rows below r
abbrev pub bottoms_below : Diagram → ℕ → ℕ
bottoms_below d r = count_by (λ r. is_bottom d r) (range_with_len 0 r)

bottoms_more : (d : Diagram) (r : ℕ) → bottoms_below d (suc r) ≡ bottoms_below d r + cond (is_bottom d r) 1 0
bottoms_more d r =
    let p = λ (r : ℕ). is_bottom d r in
    ap (λ (k : ℕ). count_by p (range_with_len 0 k)) (sym (add-one r))
    ∙ (ap (count_by p) (range_longer 0 r ∙ ap (λ (k : ℕ). range_with_len 0 r ++ k ∷ []) (zero-add r))
    ∙ (count-append p (range_with_len 0 r) (r ∷ []) ∙ ap (λ (n : ℕ). bottoms_below d r + n) (count-cons p r [] ∙ omega arith)))

power_more : (q n m : ℕ) (b : Bool) → m ≤ q ^ n → m * cond b q 1 ≤ q ^ (n + cond b 1 0)
power_more q n m true le =
    let more : q ^ (n + 1) ≡ q ^ n * q = ap (λ (k : ℕ). q ^ k) (add-one n) ∙ pow-suc q n in
    let most : m * q ≤ q ^ n * q = mul-le-mul_right q le in
    omega arith
power_more q n m false le =
    let same : q ^ (n + 0) ≡ q ^ n = ap (λ (k : ℕ). q ^ k) (omega arith) in
    omega arith

-- so the level before row r has at most as many lists as choices of a colour for each bottom below it
pub swept_length : (t : Table) (d : Diagram) → IsQuandle t → IsGrid d → (r : ℕ) → r ≤ size d → length (swept t d r) ≤ t.order ^ bottoms_below d r
swept_length t d q grid zero le = let one : t.order ^ bottoms_below d 0 ≡ 1 = pow-zero t.order in omega arith
swept_length t d q grid (suc r) le =
    let level = swept t d r in
    let l = swept_level t d q grid r (omega arith) in
    let row = row_length_by t d q grid r (omega arith) level (level_colours t d r level l) (low d (left d r) == r) (low d (right d r) == r) refl refl in
    let more = power_more t.order (bottoms_below d r) (length level) (is_bottom d r) (swept_length t d q grid r (omega arith)) in
    let count : t.order ^ bottoms_below d (suc r) ≡ t.order ^ (bottoms_below d r + cond (is_bottom d r) 1 0) = ap (λ (k : ℕ). t.order ^ k) (bottoms_more d r) in
    omega arith

-- where a list stands in the complete list, it is a colouring
listed : (t : Table) (d : Diagram) (f : List ℕ) → 0 < times f (colourings t d) → IsColouring t d f
listed t d f some = coloured t d f (came (λ h. is_colouring t d h ≡ true) f (colourings t d) (listed_only t d) some)

pub listed_most : (t : Table) (d : Diagram) (f : List ℕ) → times f (colourings t d) ≤ 1
listed_most t d f = elim (cases_lt 0 (times f (colourings t d))) [
  | inl some ↦ let once = listed_once t d f (listed t d f some) in omega arith
  | inr none ↦ omega arith
]

-- a diagram has at most as many colourings as choices of a colour for each bottom
pub most_colourings : (t : Table) (d : Diagram) → IsQuandle t → IsGrid d → length (colourings t d) ≤ t.order ^ bottoms d
most_colourings t d q grid =
    let level = swept t d (size d) in
    let l = swept_level t d q grid (size d) (omega arith) in
    let cut = map (take (size d)) level in
    let most = fewer cut (colourings t d) (listed_most t d) (λ f some. let once = cut_once t d grid (omega (arith, q.least)) level l f (listed t d f some) in
    omega arith) in
    let same : length cut ≡ length level = length-map level (take (size d)) in
    let bound : length level ≤ t.order ^ bottoms d = swept_length t d q grid (size d) (omega arith) in
    omega arith

-- so has the complete list, where the quandle fits
pub most_listed : (t : Table) (d : Diagram) → IsQuandle t → IsGrid d → fits t d ≡ true → (list : List (ArrayVec ℕ)) → lists_of list ≡ colourings t d
    → length list ≤ MAX_COLOURINGS
most_listed t d q grid fitting list complete =
    let within = leb-true (t.order ^ bottoms d) MAX_COLOURINGS fitting in
    let most = most_colourings t d q grid in
    let same : length (colourings t d) ≡ length list = ap length (sym complete) ∙ length-map list (λ (c : ArrayVec ℕ). c.items) in
    omega arith
