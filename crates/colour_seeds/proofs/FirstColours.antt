-- Of a connected quandle the first seed needs one colour alone: with each other there are as many colourings.
use Rattle.std.proofs.Common.{◌≡◌, ◌≢◌, ◌<◌, ◌+◌, ◌*◌, ◌^◌, ◌++◌, ◌==◌, ◌∙◌, inl, inr, ℕ, zero, suc, List, [], ◌∷◌, Bool, true, false, cond, length}
use Rattle.std.proofs.Common.{take, get_or, set, replicate, nat_lt, count_by, refl, sym, ap, ap₂, subst, arith}
use Rattle.std.specs.Prelude.{if◌then◌else◌}
use Rattle.std.specs.List.{All, IsFirstAndRest, flat_map, range_with_len}
use Rattle.std.proofs.Math.Nat.{suc-mul}
use Rattle.std.proofs.lemmas.Bool.{both_ways, cases_order, lt-ltb, le-ltb, eq-eqb, ne_eqb}
use Rattle.std.proofs.lemmas.List.{get_or-take, get_or-replicate, get_or-set_same, get_or-set_other, set-get_or, length-replicate}
use Rattle.std.proofs.lemmas.List.Elements.{All-nil, All-cons, All-map, All-weaker, All-get_or, filter_passes}
use Rattle.grid_core.specs.declared.grid.TheConstants.{MAX_SIZE}
use Rattle.grid_core.specs.Diagram.{Diagram, IsGrid, size}
use Rattle.grid_core.proofs.Ends.{left, right}
use Rattle.quandle_core.specs.Quandle.{Table, IsQuandle}
use Rattle.colour_rows.specs.Colouring.{is_colouring}
use Rattle.colour_rows.specs.Equation.{equation, walk_of, walk_back_of}
use Rattle.colour_rows.proofs.Colourings.{coloured}
use Rattle.colour_list.specs.Listing.{all_lists, colourings}
use Rattle.colour_list.specs.Level.{spread, with_right, with_left}
use Rattle.colour_list.proofs.Counts.{count-cons, count-append, count-map, count_agree, count_agree_on, count_no}
use Rattle.colour_list.proofs.Times.{All-flat_map}
use Rattle.colour_list.proofs.Choices.{listed_most}
use Rattle.colour_seeds.specs.Connected.{IsConnected, coloured_so}
use Rattle.colour_seeds.specs.declared.progress.Step.{Step}
use Rattle.colour_seeds.specs.declared.progress.Step.TheVariants.{Seed, Rightward, Leftward, Test}
use Rattle.colour_seeds.specs.declared.progress.SeedProgress.{SeedProgress}
use Rattle.colour_seeds.specs.Plan.{is_known, is_seed, seeds_in, progress_after, nothing, LeadsBySteps, IsPlan}
use Rattle.colour_seeds.specs.Leaves.{leaves}
use Rattle.colour_seeds.proofs.RowSteps.{row_steps, rightward_ends, leftward_ends}
use Rattle.colour_seeds.proofs.Ways.{mark_here, step_keeps, sound_nothing}
use Rattle.colour_seeds.proofs.Levels.{cut, cut_as_often, plan_level}
use Rattle.colour_seeds.proofs.Settlings.{one_leaf, seed_power, spread_more}
use Rattle.colour_seeds.proofs.Tallying.{same_counts}
use Rattle.colour_seeds.proofs.Automorphisms.{as_frequent}

-- colours below a bound, one by one
one_bound : (x n : ℕ) → cond (nat_lt x (n + 1)) 1 0 ≡ cond (nat_lt x n) 1 0 + cond (x == n) 1 0
one_bound x n = elim (cases_order x n) [
  | inl same ↦ by (nat_lt x (n + 1)) (nat_lt x n) (x == n) (lt-ltb x (n + 1) (omega arith)) (le-ltb x n (omega arith)) (eq-eqb x n same)
  | inr other ↦ elim other [
    | inl lt ↦ below (nat_lt x (n + 1)) (nat_lt x n) (x == n) (lt-ltb x (n + 1) (omega arith)) (lt-ltb x n lt) (ne_eqb x n (λ e. omega arith))
    | inr lt ↦ above (nat_lt x (n + 1)) (nat_lt x n) (x == n) (le-ltb x (n + 1) (omega arith)) (le-ltb x n (omega arith)) (ne_eqb x n (λ e. omega arith))
  ]
]
  where
    by : (a b c : Bool) → a ≡ true → b ≡ false → c ≡ true → ◌≡◌ {A = ℕ} (cond a 1 0) (cond b 1 0 + cond c 1 0)
    by a b c e f g = ap (λ t. cond t 1 0) e ∙ sym (ap₂ (λ s t. cond s 1 0 + cond t 1 0) f g)

    below : (a b c : Bool) → a ≡ true → b ≡ true → c ≡ false → ◌≡◌ {A = ℕ} (cond a 1 0) (cond b 1 0 + cond c 1 0)
    below a b c e f g = ap (λ t. cond t 1 0) e ∙ sym (ap₂ (λ s t. cond s 1 0 + cond t 1 0) f g)

    above : (a b c : Bool) → a ≡ false → b ≡ false → c ≡ false → ◌≡◌ {A = ℕ} (cond a 1 0) (cond b 1 0 + cond c 1 0)
    above a b c e f g = ap (λ t. cond t 1 0) e ∙ sym (ap₂ (λ s t. cond s 1 0 + cond t 1 0) f g)

bound_more : (c n : ℕ) (xs : List (List ℕ))
    → count_by (λ f. nat_lt (get_or f c 0) (n + 1)) xs ≡ count_by (λ f. nat_lt (get_or f c 0) n) xs + count_by (λ f. get_or f c 0 == n) xs
bound_more c n [] = refl
bound_more c n (x ∷ xs) =
    let a = count-cons (λ f. nat_lt (get_or f c 0) (n + 1)) x xs in
    let b = count-cons (λ f. nat_lt (get_or f c 0) n) x xs in
    let e = count-cons (λ f. get_or f c 0 == n) x xs in
    let one = one_bound (get_or x c 0) n in
    let rest = bound_more c n xs in
    omega arith

bound_times : (c m : ℕ) (xs : List (List ℕ)) (n : ℕ) → ((a : ℕ) → a < n → count_by (λ f. get_or f c 0 == a) xs ≡ m)
    → count_by (λ f. nat_lt (get_or f c 0) n) xs ≡ n * m
bound_times c m xs zero each = count_no (λ f. nat_lt (get_or f c 0) 0) (λ f. le-ltb (get_or f c 0) 0 (omega arith)) xs ∙ omega arith
bound_times c m xs (suc n) each =
    let rest = bound_times c m xs n (λ a lt. each a (omega arith)) in
    let here = each n (omega arith) in
    let more = bound_more c n xs in
    let one_more : suc n ≡ n + 1 = omega arith in
    let e : count_by (λ f. nat_lt (get_or f c 0) (suc n)) xs ≡ count_by (λ f. nat_lt (get_or f c 0) (n + 1)) xs =
    ap (λ (k : ℕ). count_by (λ f. nat_lt (get_or f c 0) k) xs) one_more in
    let times = suc-mul n m in
    omega arith

count_all : {X : Type 0} (xs : List X) → count_by (λ x. true) xs ≡ length xs
count_all [] = refl
count_all (x ∷ xs) = let e = count-cons (λ x. true) x xs in let h = count_all xs in omega arith

-- the colourings by their colour in a column
pub by_colour : (t : Table) (d : Diagram) (c a : ℕ) → IsQuandle t → IsGrid d → IsConnected t → c < size d → a < t.order
    → length (colourings t d) ≡ t.order * coloured_so t d c a
by_colour t d c a q grid connected lt at =
    let below : All (λ f. nat_lt (get_or f c 0) t.order ≡ true) (colourings t d) =
    All-weaker (λ f. is_colouring t d f ≡ true) (λ f. nat_lt (get_or f c 0) t.order ≡ true)
    (λ f e. let are = (coloured t d f e).colours_are in
    lt-ltb (get_or f c 0) t.order (All-get_or (λ y. y < t.order) f c 0 (omega (arith, lt, are.0)) are.1))
    (colourings t d) (filter_passes (is_colouring t d) (all_lists t.order (size d))) in
    sym (count_agree_on (λ f. nat_lt (get_or f c 0) t.order) (λ f. true) (colourings t d) below ∙ count_all (colourings t d))
    ∙ bound_times c (coloured_so t d c a) (colourings t d) t.order (λ b under. as_frequent t d c b a q grid connected lt under at)

-- later steps leave the colour of a column that is known
apart : (d : Diagram) (g : SeedProgress) (x c : ℕ) → is_known g c ≡ true → is_known g x ≡ false → c ≢ x
apart d g x c known unknown e = both_ways (is_known g x) unknown (ap (is_known g) (sym e) ∙ known)

kept_at : (t : Table) (d : Diagram) (c a : ℕ) (g h : SeedProgress) (steps : List Step) → LeadsBySteps d g steps h → is_known g c ≡ true → (f : List ℕ)
    → get_or f c 0 ≡ a
    → All (λ e. get_or e c 0 ≡ a) (leaves t d steps f)
kept_at t d c a g h [] leads known f at = All-cons (λ e. get_or e c 0 ≡ a) f [] at (All-nil (λ e. get_or e c 0 ≡ a))
kept_at t d c a g h (Seed x ∷ steps) leads known f at =
    let other = apart d g x c known leads.0.1 in
    All-flat_map (leaves t d steps) (λ e. get_or e c 0 ≡ a) (λ e. get_or e c 0 ≡ a)
    (λ e here. kept_at t d c a (progress_after d g (Seed x)) h steps leads.1 (step_keeps d g (Seed x) c known) e here) (spread t.order x f)
    (All-map (λ e. get_or e c 0 ≡ a) (set f x) (range_with_len 0 t.order)
    (λ k e lt. get_or-set_other f x c (get_or (range_with_len 0 t.order) k e) 0 other ∙ at))
kept_at t d c a g h (Rightward r ∷ steps) leads known f at =
    let row = row_steps d g r (Rightward r) leads.0.1 in
    let sides = rightward_ends r (is_known g (left d r)) (is_known g (right d r)) row.ends in
    let other = apart d g (right d r) c known sides.1 in
    let e = with_right t (equation d r) f in
    subst (All (λ e. get_or e c 0 ≡ a)) (sym (one_leaf t d steps e))
    (kept_at t d c a (progress_after d g (Rightward r)) h steps leads.1 (step_keeps d g (Rightward r) c known) e
    (get_or-set_other f (right d r) c (walk_of t (equation d r) f) 0 other ∙ at))
kept_at t d c a g h (Leftward r ∷ steps) leads known f at =
    let row = row_steps d g r (Leftward r) leads.0.1 in
    let sides = leftward_ends r (is_known g (left d r)) (is_known g (right d r)) row.ends in
    let other = apart d g (left d r) c known sides.0 in
    let e = with_left t (equation d r) f in
    subst (All (λ e. get_or e c 0 ≡ a)) (sym (one_leaf t d steps e))
    (kept_at t d c a (progress_after d g (Leftward r)) h steps leads.1 (step_keeps d g (Leftward r) c known) e
    (get_or-set_other f (left d r) c (walk_back_of t (equation d r) f) 0 other ∙ at))
kept_at t d c a g h (Test r ∷ steps) leads known f at =
    let rest = kept_at t d c a (progress_after d g (Test r)) h steps leads.1 known f at in
    by_test (walk_of t (equation d r) f == get_or f (right d r) 0) rest
  where
    by_test : (b : Bool) → All (λ e. get_or e c 0 ≡ a) (leaves t d steps f)
        → All (λ e. get_or e c 0 ≡ a) (flat_map (leaves t d steps) (if b then f ∷ [] else []))
    by_test true rest = subst (All (λ e. get_or e c 0 ≡ a)) (sym (one_leaf t d steps f)) rest
    by_test false rest = All-nil (λ e. get_or e c 0 ≡ a)

-- of the lists of all colours of a column, those with the first
first_piece : (s : List ℕ → List (List ℕ)) (x : ℕ) (f : List ℕ) (n : ℕ) → ((a : ℕ) → a < n + 1 → All (λ e. get_or e x 0 ≡ a) (s (set f x a)))
    → count_by (λ e. get_or e x 0 == 0) (flat_map s (spread (n + 1) x f)) ≡ length (s (set f x 0))
first_piece s x f zero each =
    let piece = s (set f x 0) in
    let more = count-append (λ e. get_or e x 0 == 0) piece [] in
    let own = count_agree_on (λ e. get_or e x 0 == 0) (λ e. true) piece
    (All-weaker (λ e. get_or e x 0 ≡ 0) (λ e. (get_or e x 0 == 0) ≡ true) (λ e at. eq-eqb (get_or e x 0) 0 at) piece (each 0 (omega arith)))
    ∙ count_all piece in
    omega arith
first_piece s x f (suc n) each =
    let piece = s (set f x (suc n)) in
    let so_far = first_piece s x f n (λ a lt. each a (omega arith)) in
    let longer : flat_map s (spread (suc n + 1) x f) ≡ flat_map s (spread (suc n) x f) ++ s (set f x (suc n)) = spread_more s x (suc n) f in
    let one_more : suc n ≡ n + 1 = omega arith in
    let same : count_by (λ e. get_or e x 0 == 0) (flat_map s (spread (suc n) x f)) ≡ count_by (λ e. get_or e x 0 == 0) (flat_map s (spread (n + 1) x f)) =
    ap (λ (k : ℕ). count_by (λ e. get_or e x 0 == 0) (flat_map s (spread k x f))) one_more in
    let more = count-append (λ e. get_or e x 0 == 0) (flat_map s (spread (suc n) x f)) piece in
    let own = count_agree_on (λ e. get_or e x 0 == 0) (λ e. false) piece
    (All-weaker (λ e. get_or e x 0 ≡ suc n) (λ e. (get_or e x 0 == 0) ≡ false)
    (λ e at. ne_eqb (get_or e x 0) 0 (λ no_more. absurd (omega (arith, at, no_more)))) piece
    (each (suc n) (omega arith))) ∙ count_no (λ e. false) (λ e. refl) piece in
    let whole = ap (λ (l : List (List ℕ)). count_by (λ e. get_or e x 0 == 0) l) longer in
    omega arith

-- the steps behind the first seed leave the colourings of its first colour
pub first_count : (t : Table) (d : Diagram) (x : ℕ) (rest : List Step) → IsQuandle t → IsGrid d → IsPlan d (Seed x ∷ rest)
    → length (leaves t d rest (replicate MAX_SIZE 0)) ≡ coloured_so t d x 0
first_count t d x rest q grid plan =
    let inside : x < size d = plan.leads.0.0 in
    let at : x < MAX_SIZE = omega (arith, inside, grid.most) in
    let level = leaves t d (Seed x ∷ rest) (replicate MAX_SIZE 0) in
    let p = λ (e : List ℕ). get_or e x 0 == 0 in
    let sound = sound_nothing d in
    let long : length (replicate {A = ℕ} MAX_SIZE 0) ≡ MAX_SIZE = length-replicate {A = ℕ} MAX_SIZE 0 in
    let each : (a : ℕ) → a < t.order → All (λ e. get_or e x 0 ≡ a) (leaves t d rest (set (replicate MAX_SIZE 0) x a)) = λ a lt.
    kept_at t d x a (progress_after d nothing (Seed x)) plan.last rest plan.leads.1 (mark_here nothing.known x (omega (arith, at, sound.known_long)))
    (set (replicate MAX_SIZE 0) x a)
    (get_or-set_same (replicate MAX_SIZE 0) x a 0 (omega (arith, at, long))) in
    let blank : set (replicate MAX_SIZE 0) x 0 ≡ replicate MAX_SIZE 0 =
    ap (λ (v : ℕ). set (replicate MAX_SIZE 0) x v) (sym (get_or-replicate MAX_SIZE x 0 0 at)) ∙ set-get_or (replicate MAX_SIZE 0) x 0 in
    ap (λ (f : List ℕ). length (leaves t d rest f)) (sym blank)
    ∙ (sym (pieces t.order (omega (arith, q.least)) each)
    ∙ (count_agree p (λ e. p (take (size d) e)) (λ e. ap (λ (v : ℕ). v == 0) (sym (get_or-take (size d) e x 0 inside))) level
    ∙ (sym (count-map p (take (size d)) level)
    ∙ same_counts p (cut d level) (colourings t d) (cut_as_often t d q grid level (plan_level t d (Seed x ∷ rest) q grid plan)) (listed_most t d))))
  where
    pieces : (m : ℕ) → 0 < m → ((a : ℕ) → a < m → All (λ e. get_or e x 0 ≡ a) (leaves t d rest (set (replicate MAX_SIZE 0) x a)))
        → count_by (λ e. get_or e x 0 == 0) (flat_map (leaves t d rest) (spread m x (replicate MAX_SIZE 0)))
        ≡ length (leaves t d rest (set (replicate MAX_SIZE 0) x 0))
    pieces zero some each = absurd (omega arith)
    pieces (suc n) some each =
        let one_more : suc n ≡ n + 1 = omega arith in
        ap (λ (k : ℕ). count_by (λ e. get_or e x 0 == 0) (flat_map (leaves t d rest) (spread k x (replicate MAX_SIZE 0)))) one_more
        ∙ first_piece (leaves t d rest) x (replicate MAX_SIZE 0) n (λ a lt. each a (omega arith))

seed_of : (s : Step) → is_seed s ≡ true → (x : ℕ) × (s ≡ Seed x)
seed_of (Seed x) e = (x, refl)
seed_of (Rightward r) e = absurd (cc)
seed_of (Leftward r) e = absurd (cc)
seed_of (Test r) e = absurd (cc)

-- the power of the order, with that seed and without it
pub first_power : (q : ℕ) (steps rest : List Step) (s : Step) → IsFirstAndRest steps s rest → is_seed s ≡ true → q * q ^ seeds_in rest ≡ q ^ seeds_in steps
first_power q steps rest s first seed =
    let of = seed_of s seed in
    sym (ap (λ (xs : List Step). q ^ seeds_in xs) (first.0 ∙ ap (λ (y : Step). y ∷ rest) of.1) ∙ seed_power q of.0 rest)

pub connected_count : (t : Table) (d : Diagram) (steps rest : List Step) (s : Step) (n : ℕ) → IsQuandle t → IsGrid d → IsConnected t → IsPlan d steps
    → IsFirstAndRest steps s rest → is_seed s ≡ true → n ≡ length (leaves t d rest (replicate MAX_SIZE 0)) → t.order * n ≡ length (colourings t d)
connected_count t d steps rest s n q grid connected plan first seed is =
    let of = seed_of s seed in
    let x = of.0 in
    let made : steps ≡ Seed of.0 ∷ rest = first.0 ∙ ap (λ (y : Step). y ∷ rest) of.1 in
    let its : IsPlan d (Seed of.0 ∷ rest) = subst (IsPlan d) made plan in
    ap (λ (k : ℕ). t.order * k) (is ∙ first_count t d x rest q grid its)
    ∙ sym (by_colour t d x 0 q grid connected its.leads.0.0 (omega (arith, q.least)))
