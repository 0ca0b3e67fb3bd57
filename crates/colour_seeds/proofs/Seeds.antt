-- The columns that a plan takes as seeds.
use Rattle.std.proofs.Common.{◌≡◌, ◌<◌, ◌≤◌, ◌+◌, ◌++◌, ◌∙◌, ◌⊎◌, inl, inr, ℕ, List, [], ◌∷◌, Bool, true, false, cond, length, get_or, set, take}
use Rattle.std.proofs.Common.{drop, count_by, refl, sym, ap, subst, arith, append-nil}
use Rattle.std.specs.List.{All, Contains}
use Rattle.std.proofs.lemmas.Bool.{both_ways}
use Rattle.std.proofs.lemmas.List.{length-append, take_more, take-append-drop}
use Rattle.std.proofs.lemmas.List.Elements.{All-nil, All-cons, All-head, All-tail, All-append, Contains-get_or}
use Rattle.std.proofs.lemmas.List.Sums.{sum_by-set, count_by-le-length}
use Rattle.grid_core.specs.declared.grid.TheConstants.{MAX_SIZE}
use Rattle.grid_core.specs.Diagram.{Diagram, IsGrid, size}
use Rattle.grid_core.proofs.Ends.{has_ends, left, right}
use Rattle.colour_seeds.specs.Settled.{IsClosed, Determine}
use Rattle.colour_seeds.specs.Seeded.{HasKnown}
use Rattle.colour_seeds.specs.declared.progress.Step.{Step}
use Rattle.colour_seeds.specs.declared.progress.Step.TheVariants.{Seed, Rightward, Leftward, Test}
use Rattle.colour_seeds.specs.declared.progress.SeedProgress.{SeedProgress}
use Rattle.colour_seeds.specs.Plan.{is_known, is_seed, seeds_in, seed_columns, progress_after, nothing, LeadsBySteps, IsPlan}
use Rattle.colour_seeds.proofs.RowSteps.{row_steps, rightward_ends, leftward_ends, overs_from}
use Rattle.colour_seeds.proofs.Ways.{IsSound, sound_after, sound_leads, sound_nothing, nothing_known, only_from}
use Rattle.colour_seeds.proofs.Settlings.{seeds_cons}

-- there are as many as steps that are seeds
pub seeds_are : (steps : List Step) → length (seed_columns steps) ≡ seeds_in steps
seeds_are [] = refl
seeds_are (Seed c ∷ steps) = let e = seeds_cons (Seed c) steps in let h = seeds_are steps in omega arith
seeds_are (Rightward r ∷ steps) = let e = seeds_cons (Rightward r) steps in let h = seeds_are steps in omega arith
seeds_are (Leftward r ∷ steps) = let e = seeds_cons (Leftward r) steps in let h = seeds_are steps in omega arith
seeds_are (Test r ∷ steps) = let e = seeds_cons (Test r) steps in let h = seeds_are steps in omega arith

seed_columns_append : (xs ys : List Step) → seed_columns (xs ++ ys) ≡ seed_columns xs ++ seed_columns ys
seed_columns_append [] ys = refl
seed_columns_append (Seed c ∷ xs) ys = ap (λ (l : List ℕ). c ∷ l) (seed_columns_append xs ys)
seed_columns_append (Rightward r ∷ xs) ys = seed_columns_append xs ys
seed_columns_append (Leftward r ∷ xs) ys = seed_columns_append xs ys
seed_columns_append (Test r ∷ xs) ys = seed_columns_append xs ys

none : (s : Step) → is_seed s ≡ false → seed_columns (s ∷ []) ≡ []
none (Seed c) e = absurd (cc)
none (Rightward r) e = refl
none (Leftward r) e = refl
none (Test r) e = refl

pub no_seed_column : (before later : List Step) (s : Step) → later ≡ before ++ s ∷ [] → is_seed s ≡ false → seed_columns later ≡ seed_columns before
no_seed_column before later s is no_seed =
    ap (λ (xs : List Step). seed_columns xs) is
    ∙ (seed_columns_append before (s ∷ []) ∙ (ap (λ (l : List ℕ). seed_columns before ++ l) (none s no_seed) ∙ append-nil (seed_columns before)))

pub one_seed_column : (before later : List Step) (c : ℕ) → later ≡ before ++ Seed c ∷ [] → seed_columns later ≡ seed_columns before ++ c ∷ []
one_seed_column before later c is = ap (λ (xs : List Step). seed_columns xs) is ∙ seed_columns_append before (Seed c ∷ [])

-- of the first steps, and one step more
pub seed_here : (xs steps : List Step) (i c : ℕ) (d : Step) → xs ≡ steps → i < length xs → get_or xs i d ≡ Seed c
    → seed_columns (take (i + 1) steps) ≡ seed_columns (take i steps) ++ c ∷ []
seed_here xs steps i c d is lt at =
    subst (λ (l : List Step). seed_columns (take (i + 1) l) ≡ seed_columns (take i l) ++ c ∷ []) is
    (one_seed_column (take i xs) (take (i + 1) xs) c (take_more xs i d lt ∙ ap (λ (s : Step). take i xs ++ s ∷ []) at))

not_seed : (s : Step) → ((x : ℕ) → s ≡ Seed x → ⊥) → is_seed s ≡ false
not_seed (Seed x) other = absurd (other x refl)
not_seed (Rightward r) other = refl
not_seed (Leftward r) other = refl
not_seed (Test r) other = refl

pub no_seed_here : (xs steps : List Step) (i : ℕ) (d : Step) → xs ≡ steps → i < length xs → ((x : ℕ) → get_or xs i d ≡ Seed x → ⊥)
    → seed_columns (take (i + 1) steps) ≡ seed_columns (take i steps)
no_seed_here xs steps i d is lt other =
    subst (λ (l : List Step). seed_columns (take (i + 1) l) ≡ seed_columns (take i l)) is
    (no_seed_column (take i xs) (take (i + 1) xs) (get_or xs i d) (take_more xs i d lt) (not_seed (get_or xs i d) other))

-- there is room for each
pub seed_room : (xs steps : List Step) (i c : ℕ) (d : Step) → xs ≡ steps → i < length xs → get_or xs i d ≡ Seed c
    → length (seed_columns (take i steps)) + 1 ≤ length (seed_columns steps)
seed_room xs steps i c d is lt at =
    let whole = ap (λ (l : List Step). length (seed_columns l)) (sym (take-append-drop (i + 1) steps))
    ∙ (ap length (seed_columns_append (take (i + 1) steps) (drop (i + 1) steps))
    ∙ length-append (seed_columns (take (i + 1) steps)) (seed_columns (drop (i + 1) steps))) in
    let here = ap length (seed_here xs steps i c d is lt at) ∙ length-append (seed_columns (take i steps)) (c ∷ []) in
    omega (arith, whole, here)

-- each stands in the list of which they are taken
pub among_more : (seeds taken later : List ℕ) (k s : ℕ) → k < length seeds → get_or seeds k 0 ≡ s → All (Contains seeds) taken
    → (later ≡ taken) ⊎ (later ≡ taken ++ s ∷ []) → All (Contains seeds) later
among_more seeds taken later k s lt at all (inl same) = subst (All (Contains seeds)) (sym same) all
among_more seeds taken later k s lt at all (inr more) =
    subst (All (Contains seeds)) (sym more) (All-append (Contains seeds) taken (s ∷ []) all
    (All-cons (Contains seeds) s [] (subst (Contains seeds) at (Contains-get_or seeds k 0 lt)) (All-nil (Contains seeds))))

-- a column of a list of marks
count_up : (xs : List Bool) (i : ℕ) → i < length xs → count_by (λ b. b) xs ≤ count_by (λ b. b) (set xs i true)
count_up xs i lt = by (get_or xs i false) refl
  where
    by : (b : Bool) → get_or xs i false ≡ b → count_by (λ b. b) xs ≤ count_by (λ b. b) (set xs i true)
    by true e = let h = sum_by-set (λ b. cond b 1 0) xs i true false lt in
        let one : ◌≡◌ {A = ℕ} (cond (get_or xs i false) 1 0) 1 = ap (λ b. cond b 1 0) e in omega arith
    by false e = let h = sum_by-set (λ b. cond b 1 0) xs i true false lt in
        let zero : ◌≡◌ {A = ℕ} (cond (get_or xs i false) 1 0) 0 = ap (λ b. cond b 1 0) e in omega arith

count_new : (xs : List Bool) (i : ℕ) → i < length xs → get_or xs i false ≡ false → count_by (λ b. b) (set xs i true) ≡ count_by (λ b. b) xs + 1
count_new xs i lt e =
    let h = sum_by-set (λ b. cond b 1 0) xs i true false lt in
    let zero : ◌≡◌ {A = ℕ} (cond (get_or xs i false) 1 0) 0 = ap (λ b. cond b 1 0) e in omega arith

-- each seed is a column more that is known
seeds_known : (d : Diagram) (g h : SeedProgress) (steps : List Step) → IsGrid d → IsSound d g → LeadsBySteps d g steps h
    → length (seed_columns steps) + count_by (λ b. b) g.known ≤ count_by (λ b. b) h.known
seeds_known d g h [] grid sound leads = let e = ap (λ (g : SeedProgress). count_by (λ b. b) g.known) leads in omega arith
seeds_known d g h (Seed c ∷ steps) grid sound leads =
    let more = seeds_known d (progress_after d g (Seed c)) h steps grid (sound_after d g (Seed c) grid sound leads.0) leads.1 in
    let e = count_new g.known c (omega (arith, leads.0.0, grid.most, sound.known_long)) leads.0.1 in
    omega arith
seeds_known d g h (Rightward r ∷ steps) grid sound leads =
    let more = seeds_known d (progress_after d g (Rightward r)) h steps grid (sound_after d g (Rightward r) grid sound leads.0) leads.1 in
    let ends = has_ends d grid r leads.0.0 in
    let e = count_up g.known (right d r) (omega (arith, ends.within, grid.most, sound.known_long)) in
    omega arith
seeds_known d g h (Leftward r ∷ steps) grid sound leads =
    let more = seeds_known d (progress_after d g (Leftward r)) h steps grid (sound_after d g (Leftward r) grid sound leads.0) leads.1 in
    let ends = has_ends d grid r leads.0.0 in
    let e = count_up g.known (left d r) (omega (arith, ends.within, ends.ordered, grid.most, sound.known_long)) in
    omega arith
seeds_known d g h (Test r ∷ steps) grid sound leads =
    seeds_known d (progress_after d g (Test r)) h steps grid (sound_after d g (Test r) grid sound leads.0) leads.1

pub seeds_fit : (d : Diagram) (steps : List Step) (h : SeedProgress) → IsGrid d → LeadsBySteps d nothing steps h → length (seed_columns steps) ≤ MAX_SIZE
seeds_fit d steps h grid leads =
    let e = seeds_known d nothing h steps grid (sound_nothing d) leads in
    let most = count_by-le-length (λ b. b) h.known in
    let sound = sound_leads d nothing h steps grid (sound_nothing d) leads in
    omega (arith, e, most, sound.known_long)

-- a closed set that has the seeds has what is known
follow : (d : Diagram) (p : ℕ → Bool) → IsClosed d p → (g h : SeedProgress) (steps : List Step) → LeadsBySteps d g steps h → HasKnown p g
    → All (λ s. p s ≡ true) (seed_columns steps) → HasKnown p h
follow d p closed g h [] leads has seeds = subst (HasKnown p) leads has
follow d p closed g h (Seed c ∷ steps) leads has seeds =
    follow d p closed (progress_after d g (Seed c)) h steps leads.1
    (only_from d p g c has (All-head (λ s. p s ≡ true) c (seed_columns steps) seeds)) (All-tail (λ s. p s ≡ true) c (seed_columns steps) seeds)
follow d p closed g h (Rightward r ∷ steps) leads has seeds =
    let row = row_steps d g r (Rightward r) leads.0.1 in
    let sides = rightward_ends r (is_known g (left d r)) (is_known g (right d r)) row.ends in
    follow d p closed (progress_after d g (Rightward r)) h steps leads.1
    (only_from d p g (right d r) has
    (closed.rightward r leads.0.0 (λ c at over. has c (overs_from d g r row.overs c at over)) (has (left d r) sides.0))) seeds
follow d p closed g h (Leftward r ∷ steps) leads has seeds =
    let row = row_steps d g r (Leftward r) leads.0.1 in
    let sides = leftward_ends r (is_known g (left d r)) (is_known g (right d r)) row.ends in
    follow d p closed (progress_after d g (Leftward r)) h steps leads.1
    (only_from d p g (left d r) has
    (closed.leftward r leads.0.0 (λ c at over. has c (overs_from d g r row.overs c at over)) (has (right d r) sides.1))) seeds
follow d p closed g h (Test r ∷ steps) leads has seeds = follow d p closed (progress_after d g (Test r)) h steps leads.1 has seeds

seeds_inside : (d : Diagram) (g h : SeedProgress) (steps : List Step) → LeadsBySteps d g steps h → All (λ s. s < size d) (seed_columns steps)
seeds_inside d g h [] leads = All-nil (λ s. s < size d)
seeds_inside d g h (Seed c ∷ steps) leads =
    All-cons (λ s. s < size d) c (seed_columns steps) leads.0.0 (seeds_inside d (progress_after d g (Seed c)) h steps leads.1)
seeds_inside d g h (Rightward r ∷ steps) leads = seeds_inside d (progress_after d g (Rightward r)) h steps leads.1
seeds_inside d g h (Leftward r ∷ steps) leads = seeds_inside d (progress_after d g (Leftward r)) h steps leads.1
seeds_inside d g h (Test r ∷ steps) leads = seeds_inside d (progress_after d g (Test r)) h steps leads.1

pub plan_determines : (d : Diagram) (steps : List Step) → IsGrid d → IsPlan d steps → Determine (seed_columns steps) d
plan_determines d steps grid plan = record {
  columns = seeds_inside d nothing plan.last steps plan.leads;
  all = λ c lt p closed has.
      follow d p closed nothing plan.last steps plan.leads (λ x e. absurd (both_ways (is_known nothing x) (nothing_known x) e)) has c (plan.known c lt);
}
