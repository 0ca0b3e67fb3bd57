-- A row's equation solved for the column that begins in it.
use Rattle.std.proofs.Common.{◌≡◌, ◌<◌, ◌≤◌, ◌+◌, ◌==◌, ◌++◌, ◌∙◌, ℕ, zero, suc, List, [], ◌∷◌, Bool, true, false, cond, map, set, refl, sym, ap, arith}
use Rattle.std.specs.List.{range_with_len, flat_map, filter, All}
use Rattle.std.proofs.lemmas.Bool.{eqb-true, eqb-false, ne_eqb}
use Rattle.std.proofs.lemmas.List.FromFn.{get_or-range_with_len, length-range_with_len}
use Rattle.std.proofs.lemmas.List.Elements.{All-head, All-tail, filter-append}
use Rattle.grid_core.specs.Diagram.{Diagram, size}
use Rattle.grid_core.proofs.Ends.{HasEnds, left, right}
use Rattle.quandle_core.specs.Quandle.{Table, IsQuandle}
use Rattle.colour_rows.specs.Walk.{walk, closes}
use Rattle.colour_rows.proofs.Walks.{walk_back, closes_left, closes_right, walk_stays, walk_back_stays}
use Rattle.colour_list.specs.Level.{spread}
use Rattle.colour_rows.specs.Colouring.{AreColours}

none_of : (w a n : ℕ) → w < a → filter (λ b. w == b) (range_with_len a n) ≡ []
none_of w a zero lt = refl
none_of w a (suc n) lt =
    ap (λ t. cond t (a ∷ filter (λ b. w == b) (range_with_len (a + 1) n)) (filter (λ b. w == b) (range_with_len (a + 1) n))) (ne_eqb w a (λ e. omega arith))
    ∙ none_of w (a + 1) n (omega arith)

one_step : (w a n : ℕ) → (a + 1 ≤ w → filter (λ b. w == b) (range_with_len (a + 1) n) ≡ w ∷ []) → a ≤ w → (t : Bool) → (w == a) ≡ t
    → filter (λ b. w == b) (range_with_len a (suc n)) ≡ w ∷ []
one_step w a n more le true e =
    let same = eqb-true w a e in
    ap (λ t. cond t (a ∷ filter (λ b. w == b) (range_with_len (a + 1) n)) (filter (λ b. w == b) (range_with_len (a + 1) n))) e
    ∙ (ap (λ (xs : List ℕ). a ∷ xs) (none_of w (a + 1) n (omega arith)) ∙ ap (λ (b : ℕ). b ∷ []) (sym same))
one_step w a n more le false e =
    let apart = eqb-false w a e in
    ap (λ t. cond t (a ∷ filter (λ b. w == b) (range_with_len (a + 1) n)) (filter (λ b. w == b) (range_with_len (a + 1) n))) e ∙ more (omega (arith, apart))

-- one number of a range passes
one_of : (w a n : ℕ) → a ≤ w → w < a + n → filter (λ b. w == b) (range_with_len a n) ≡ w ∷ []
one_of w a zero le lt = absurd (omega arith)
one_of w a (suc n) le lt = one_step w a n (λ more. one_of w (a + 1) n more (omega arith)) le (w == a) refl

map_step : {X Y : Type 0} (p : Y → Bool) (h : X → Y) (x : X) (kept : List X) (t : Bool)
    → cond t (h x ∷ map h kept) (map h kept) ≡ map h (cond t (x ∷ kept) kept)
map_step p h x kept true = refl
map_step p h x kept false = refl

filter-map : {X Y : Type 0} (p : Y → Bool) (h : X → Y) (xs : List X) → filter p (map h xs) ≡ map h (filter (λ x. p (h x)) xs)
filter-map p h [] = refl
filter-map p h (x ∷ xs) = ap (λ ys. cond (p (h x)) (h x ∷ ys) ys) (filter-map p h xs) ∙ map_step p h x (filter (λ x. p (h x)) xs) (p (h x))

filter_same : {X : Type 0} (p q : X → Bool) (xs : List X) → All (λ x. p x ≡ q x) xs → filter p xs ≡ filter q xs
filter_same p q [] all = refl
filter_same p q (x ∷ xs) all =
    ap (λ t. cond t (x ∷ filter p xs) (filter p xs)) (All-head (λ x. p x ≡ q x) x xs all)
    ∙ ap (λ ys. cond (q x) (x ∷ ys) ys) (filter_same p q xs (All-tail (λ x. p x ≡ q x) x xs all))

-- of all colours for a column one passes
pub one_solved : (p : List ℕ → Bool) (q c w : ℕ) (f : List ℕ) → w < q → ((b : ℕ) → b < q → p (set f c b) ≡ (w == b)) → filter p (spread q c f) ≡ set f c w ∷ []
one_solved p q c w f lt each =
    filter-map p (set f c) (range_with_len 0 q)
    ∙ ap (map (set f c)) (filter_same (λ b. p (set f c b)) (λ b. w == b) (range_with_len 0 q)
    (λ k d at. each _ (omega (arith, at, length-range_with_len 0 q, get_or-range_with_len 0 q k d (omega (arith, at, length-range_with_len 0 q)))))
    ∙ one_of w 0 q (omega arith) (omega arith))

-- so the filter of all of them is a map
pub all_solved : (p : List ℕ → Bool) (P : List ℕ → Type 0) (q c : ℕ) (w : List ℕ → ℕ) → ((f : List ℕ) → P f → filter p (spread q c f) ≡ set f c (w f) ∷ [])
    → (level : List (List ℕ)) → All P level → filter p (flat_map (spread q c) level) ≡ map (λ f. set f c (w f)) level
all_solved p P q c w one [] all = refl
all_solved p P q c w one (f ∷ level) all =
    filter-append p (spread q c f) (flat_map (spread q c) level)
    ∙ (ap (λ xs. xs ++ filter p (flat_map (spread q c) level)) (one f (All-head P f level all))
    ∙ ap (λ (xs : List (List ℕ)). set f c (w f) ∷ xs) (all_solved p P q c w one level (All-tail P f level all)))

-- the right end begins in the row: its colour is the walk's last
pub solved_right : (t : Table) (d : Diagram) (r n : ℕ) → IsQuandle t → HasEnds d r → size d ≤ n → (level : List (List ℕ)) → All (AreColours n t.order) level
    → filter (λ f. closes t d f r) (flat_map (spread t.order (right d r)) level) ≡ map (λ f. set f (right d r) (walk t d f r)) level
solved_right t d r n q ends fits level all =
    all_solved (λ f. closes t d f r) (AreColours n t.order) t.order (right d r) (λ f. walk t d f r)
    (λ f c. one_solved (λ f. closes t d f r) t.order (right d r) (walk t d f r) f (walk_stays t d f r q ends (omega (arith, c.0)) c.1)
    (λ b lt. closes_right t d f r b ends (omega (arith, ends.within, c.0))))
    level all

-- the left end alone begins in the row: its colour is that of the walk taken backwards
pub solved_left : (t : Table) (d : Diagram) (r n : ℕ) → IsQuandle t → HasEnds d r → size d ≤ n → (level : List (List ℕ)) → All (AreColours n t.order) level
    → filter (λ f. closes t d f r) (flat_map (spread t.order (left d r)) level) ≡ map (λ f. set f (left d r) (walk_back t d f r)) level
solved_left t d r n q ends fits level all =
    all_solved (λ f. closes t d f r) (AreColours n t.order) t.order (left d r) (λ f. walk_back t d f r)
    (λ f c. one_solved (λ f. closes t d f r) t.order (left d r) (walk_back t d f r) f (walk_back_stays t d f r q ends (omega (arith, c.0)) c.1)
    (λ b lt. closes_left t d f r b q ends (omega (arith, c.0)) c.1 lt))
    level all
