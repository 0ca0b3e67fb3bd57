-- Where steps lead: what is known behind them, and what that follows from.
use Rattle.std.proofs.Common.{◌≡◌, ◌<◌, ◌+◌, ◌++◌, ◌∙◌, ◌⊎◌, inl, inr, ℕ, List, [], ◌∷◌, Bool, true, false, cond, not, Option, Some, None, length}
use Rattle.std.proofs.Common.{get_or, set, replicate, count_by, refl, sym, ap, subst, arith}
use Rattle.std.specs.List.{range_with_len}
use Rattle.std.proofs.lemmas.List.FromFn.{get_or-range_with_len, length-range_with_len}
use Rattle.std.proofs.lemmas.List.Elements.{All-get_or}
use Rattle.std.proofs.lemmas.Bool.{cases_lt, cases_eq, both_ways}
use Rattle.std.proofs.lemmas.List.{length-set, length-replicate, get_or-replicate, get_or-set_same, get_or-set_other, get_or_past}
use Rattle.std.proofs.lemmas.List.Sums.{sum_by-set, sum_by-append}
use Rattle.grid_core.specs.declared.grid.TheConstants.{MAX_SIZE}
use Rattle.grid_core.specs.Diagram.{Diagram, IsGrid, size}
use Rattle.grid_core.proofs.Ends.{has_ends, left, right}
use Rattle.colour_seeds.specs.Settled.{HasOvers, IsClosed}
use Rattle.colour_seeds.specs.Seeded.{HasKnown, IsFault, Reaches}
use Rattle.colour_seeds.specs.declared.seeding.SeedFault.{SeedFault}
use Rattle.colour_seeds.specs.declared.seeding.SeedFault.TheVariants.{Outside, Unsettled, OutOfMemory}
use Rattle.colour_seeds.specs.declared.progress.Step.{Step}
use Rattle.colour_seeds.specs.declared.progress.Step.TheVariants.{Seed, Rightward, Leftward, Test}
use Rattle.colour_seeds.specs.declared.progress.SeedProgress.{SeedProgress}
use Rattle.colour_seeds.specs.Plan.{is_known, is_read, by_ends, row_step, next_step, progress_after, nothing, LeadsBySteps, IsAllowed, is_seed, seeds_in}
use Rattle.colour_seeds.proofs.RowSteps.{row_steps, rightward_ends, leftward_ends, test_ends, overs_from, next_allowed, idle_row}

-- a mark that is set, and those that stay
pub inside_from : (xs : List Bool) (c : ℕ) → get_or xs c false ≡ true → c < length xs
inside_from xs c e = elim (cases_lt c (length xs)) [
  | inl lt ↦ lt
  | inr le ↦ absurd (both_ways (get_or xs c false) (get_or_past xs c false le) e)
]

pub marked : (xs : List Bool) (i c : ℕ) → get_or xs c false ≡ true → get_or (set xs i true) c false ≡ true
marked xs i c e = elim (cases_eq c i) [
  | inl same ↦ ap (λ k. get_or (set xs i true) k false) same
      ∙ get_or-set_same xs i true false (subst (λ (k : ℕ). k < length xs) same (inside_from xs c e))
  | inr other ↦ get_or-set_other xs i c true false other ∙ e
]

pub mark_new : (xs : List Bool) (i c : ℕ) → get_or (set xs i true) c false ≡ true → (c ≡ i) ⊎ (get_or xs c false ≡ true)
mark_new xs i c e = elim (cases_eq c i) [
  | inl same ↦ inl same
  | inr other ↦ inr (sym (get_or-set_other xs i c true false other) ∙ e)
]

pub mark_old : (xs : List Bool) (i c : ℕ) → get_or (set xs i true) c false ≡ false → get_or xs c false ≡ false
mark_old xs i c e = false_of (get_or xs c false) (λ h. both_ways (get_or (set xs i true) c false) e (marked xs i c h))
  where
    false_of : (b : Bool) → (b ≡ true → ⊥) → b ≡ false
    false_of true h = absurd (h refl)
    false_of false h = refl

pub mark_here : (xs : List Bool) (i : ℕ) → i < length xs → get_or (set xs i true) i false ≡ true
mark_here xs i lt = get_or-set_same xs i true false lt

-- a row's columns are all known
pub record HasAll (d : Diagram) (g : SeedProgress) (r : ℕ) : Type 0 where
  pub at_left : is_known g (left d r) ≡ true
  pub at_right : is_known g (right d r) ≡ true
  pub overs : HasOvers d (is_known g) r

-- only columns are known, and rows that were read have known columns
pub record IsSound (d : Diagram) (g : SeedProgress) : Type 0 where
  pub known_long : length g.known ≡ MAX_SIZE
  pub read_long : length g.read ≡ MAX_SIZE
  pub inside : (c : ℕ) → is_known g c ≡ true → c < size d
  pub rows : (r : ℕ) → r < size d → is_read g r ≡ true → HasAll d g r

has_more : (d : Diagram) (g h : SeedProgress) (r : ℕ) → HasKnown (is_known h) g → HasAll d g r → HasAll d h r
has_more d g h r keeps all = record {
  at_left = keeps (left d r) all.at_left;
  at_right = keeps (right d r) all.at_right;
  overs = λ c lt over. keeps c (all.overs c lt over);
}

-- a step keeps what is known
pub step_keeps : (d : Diagram) (g : SeedProgress) (s : Step) → HasKnown (is_known (progress_after d g s)) g
step_keeps d g (Seed c) x e = marked g.known c x e
step_keeps d g (Rightward r) x e = marked g.known (right d r) x e
step_keeps d g (Leftward r) x e = marked g.known (left d r) x e
step_keeps d g (Test r) x e = e

read_row : (d : Diagram) (g h : SeedProgress) (r : ℕ) → IsSound d g → HasKnown (is_known h) g → h.read ≡ set g.read r true → HasAll d h r
    → (s : ℕ) → s < size d → is_read h s ≡ true → HasAll d h s
read_row d g h r sound keeps is here s lt e = elim (mark_new g.read r s (ap (λ (xs : List Bool). get_or xs s false) (sym is) ∙ e)) [
  | inl same ↦ subst (HasAll d h) (sym same) here
  | inr before ↦ has_more d g h s keeps (sound.rows s lt before)
]

known_inside : (d : Diagram) (g : SeedProgress) (x : ℕ) → IsSound d g → x < size d → (c : ℕ) → get_or (set g.known x true) c false ≡ true → c < size d
known_inside d g x sound lt c e = elim (mark_new g.known x c e) [
  | inl same ↦ omega (arith, same)
  | inr before ↦ sound.inside c before
]

pub sound_after : (d : Diagram) (g : SeedProgress) (s : Step) → IsGrid d → IsSound d g → IsAllowed d g s → IsSound d (progress_after d g s)
sound_after d g (Seed c) grid sound allowed = record {
  known_long = length-set g.known c true ∙ sound.known_long;
  read_long = sound.read_long;
  inside = known_inside d g c sound allowed.0;
  rows = λ r lt e. has_more d g (progress_after d g (Seed c)) r (step_keeps d g (Seed c)) (sound.rows r lt e);
}
sound_after d g (Rightward r) grid sound allowed =
    let h = progress_after d g (Rightward r) in
    let steps = row_steps d g r (Rightward r) allowed.1 in
    let sides = rightward_ends r (is_known g (left d r)) (is_known g (right d r)) steps.ends in
    let e = has_ends d grid r allowed.0 in
    record {
      known_long = length-set g.known (right d r) true ∙ sound.known_long;
      read_long = length-set g.read r true ∙ sound.read_long;
      inside = known_inside d g (right d r) sound e.within;
      rows = read_row d g h r sound (step_keeps d g (Rightward r)) refl (record {
        at_left = step_keeps d g (Rightward r) (left d r) sides.0;
        at_right = mark_here g.known (right d r) (omega (arith, e.within, grid.most, sound.known_long));
        overs = λ c lt over. step_keeps d g (Rightward r) c (overs_from d g r steps.overs c lt over);
      });
    }
sound_after d g (Leftward r) grid sound allowed =
    let h = progress_after d g (Leftward r) in
    let steps = row_steps d g r (Leftward r) allowed.1 in
    let sides = leftward_ends r (is_known g (left d r)) (is_known g (right d r)) steps.ends in
    let e = has_ends d grid r allowed.0 in
    let lt : left d r < size d = omega (arith, e.within, e.ordered) in
    record {
      known_long = length-set g.known (left d r) true ∙ sound.known_long;
      read_long = length-set g.read r true ∙ sound.read_long;
      inside = known_inside d g (left d r) sound lt;
      rows = read_row d g h r sound (step_keeps d g (Leftward r)) refl (record {
        at_left = mark_here g.known (left d r) (omega (arith, lt, grid.most, sound.known_long));
        at_right = step_keeps d g (Leftward r) (right d r) sides.1;
        overs = λ c lt over. step_keeps d g (Leftward r) c (overs_from d g r steps.overs c lt over);
      });
    }
sound_after d g (Test r) grid sound allowed =
    let h = progress_after d g (Test r) in
    let steps = row_steps d g r (Test r) allowed.1 in
    let sides = test_ends r (is_known g (left d r)) (is_known g (right d r)) steps.ends in
    record {
      known_long = sound.known_long;
      read_long = length-set g.read r true ∙ sound.read_long;
      inside = sound.inside;
      rows = read_row d g h r sound (λ c e. e) refl (record { at_left = sides.0; at_right = sides.1; overs = overs_from d g r steps.overs });
    }

pub sound_leads : (d : Diagram) (g h : SeedProgress) (steps : List Step) → IsGrid d → IsSound d g → LeadsBySteps d g steps h → IsSound d h
sound_leads d g h [] grid sound leads = subst (IsSound d) leads sound
sound_leads d g h (s ∷ steps) grid sound leads = sound_leads d (progress_after d g s) h steps grid (sound_after d g s grid sound leads.0) leads.1

none_marked : (n c : ℕ) → get_or (replicate n false) c false ≡ false
none_marked n c = elim (cases_lt c n) [
  | inl lt ↦ get_or-replicate n c false false lt
  | inr le ↦ get_or_past (replicate n false) c false (omega (arith, length-replicate n false))
]

pub sound_nothing : (d : Diagram) → IsSound d nothing
sound_nothing d = sound_of d MAX_SIZE refl
  where
    sound_of : (d : Diagram) (n : ℕ) → n ≡ MAX_SIZE → IsSound d (record { known = replicate n false; read = replicate n false })
    sound_of d n is = record {
      known_long = length-replicate n false ∙ is;
      read_long = length-replicate n false ∙ is;
      inside = λ c e. absurd (both_ways (get_or (replicate n false) c false) (none_marked n c) e);
      rows = λ r lt e. absurd (both_ways (get_or (replicate n false) r false) (none_marked n r) e);
    }

pub nothing_known : (c : ℕ) → is_known nothing c ≡ false
nothing_known c = none_marked MAX_SIZE c

-- one step more
pub leads_more : (d : Diagram) (g h : SeedProgress) (steps : List Step) (s : Step) → LeadsBySteps d g steps h → IsAllowed d h s
    → LeadsBySteps d g (steps ++ s ∷ []) (progress_after d h s)
leads_more d g h [] s leads allowed = (subst (λ (h : SeedProgress). IsAllowed d h s) (sym leads) allowed, ap (λ (h : SeedProgress). progress_after d h s) leads)
leads_more d g h (t ∷ steps) s leads allowed = (leads.0, leads_more d (progress_after d g t) h steps s leads.1 allowed)

pub seeds_more : (steps : List Step) (s : Step) → seeds_in (steps ++ s ∷ []) ≡ seeds_in steps + cond (is_seed s) 1 0
seeds_more steps s = let e = sum_by-append (λ s. cond (is_seed s) 1 0) steps (s ∷ []) in omega (arith, e)

-- how many rows were not read
abbrev pub unread : SeedProgress → ℕ
unread g = count_by not g.read

-- what is known of the step of a row
pub record Next (d : Diagram) (g : SeedProgress) (s : Step) : Type 0 where
  pub allowed : IsAllowed d g s
  pub no_seed : is_seed s ≡ false
  pub only : (p : ℕ → Bool) → IsClosed d p → HasKnown p g → HasKnown p (progress_after d g s)
  pub falls : unread (progress_after d g s) < unread g

by_cases : (P : Step → Type 0) (r : ℕ) (a b : Bool) (s : Step) → by_ends r a b ≡ Some s → (a ≡ true → b ≡ true → P (Test r))
    → (a ≡ true → b ≡ false → P (Rightward r)) → (a ≡ false → b ≡ true → P (Leftward r)) → P s
by_cases P r true true s e test rightward leftward = let h : Test r ≡ s = cc in subst P h (test refl refl)
by_cases P r true false s e test rightward leftward = let h : Rightward r ≡ s = cc in subst P h (rightward refl refl)
by_cases P r false true s e test rightward leftward = let h : Leftward r ≡ s = cc in subst P h (leftward refl refl)
by_cases P r false false s e test rightward leftward = absurd (cc)

fewer_unread : (xs : List Bool) (r : ℕ) → r < length xs → get_or xs r false ≡ false → count_by not (set xs r true) < count_by not xs
fewer_unread xs r lt e =
    let h = sum_by-set (λ b. cond (not b) 1 0) xs r true false lt in
    let one : ◌≡◌ {A = ℕ} (cond (not (get_or xs r false)) 1 0) 1 = ap (λ b. cond (not b) 1 0) e in
    omega (arith, h, one)

pub only_from : (d : Diagram) (p : ℕ → Bool) (g : SeedProgress) (x : ℕ) → HasKnown p g → p x ≡ true → (c : ℕ) → get_or (set g.known x true) c false ≡ true
    → p c ≡ true
only_from d p g x has here c e = elim (mark_new g.known x c e) [
  | inl same ↦ ap p same ∙ here
  | inr before ↦ has c before
]

pub next_of : (d : Diagram) (g : SeedProgress) (s : Step) → IsGrid d → IsSound d g → next_step d g ≡ Some s → Next d g s
next_of d g s grid sound e =
    let from = next_allowed d g s e in
    let r = from.0 in
    let lt : from.0 < size d = from.1 in
    let steps = row_steps d g r s from.2 in
    let has : HasOvers d (is_known g) r = overs_from d g r steps.overs in
    let fewer : count_by not (set g.read r true) < count_by not g.read = fewer_unread g.read r (omega (arith, lt, grid.most, sound.read_long)) steps.unread in
    by_cases (λ (s : Step). row_step d g r ≡ Some s → Next d g s) r (is_known g (left d r)) (is_known g (right d r)) s steps.ends
    (λ at_left at_right is. record { allowed = (lt, is); no_seed = refl; only = λ p closed from. from; falls = fewer })
    (λ at_left at_right is. record {
      allowed = (lt, is);
      no_seed = refl;
      only = λ p closed from. only_from d p g (right d r) from (closed.rightward r lt (λ c at over. from c (has c at over)) (from (left d r) at_left));
      falls = fewer;
    })
    (λ at_left at_right is. record {
      allowed = (lt, is);
      no_seed = refl;
      only = λ p closed from. only_from d p g (left d r) from (closed.leftward r lt (λ c at over. from c (has c at over)) (from (right d r) at_right));
      falls = fewer;
    })
    from.2

-- each progress reaches itself, and what it reaches goes on by a row's step
pub reaches_itself : (d : Diagram) (g : SeedProgress) → Reaches d g g
reaches_itself d g = record { keeps = λ c e. e; only = λ p closed from. from }

pub reaches_more : (d : Diagram) (g h : SeedProgress) (s : Step) → Next d h s → Reaches d g h → Reaches d g (progress_after d h s)
reaches_more d g h s next r = record {
  keeps = λ c e. step_keeps d h s c (r.keeps c e);
  only = λ p closed from. next.only p closed (r.only p closed from);
}

-- what is known where no row does anything is closed
closed_by : (d : Diagram) (g : SeedProgress) → IsSound d g → next_step d g ≡ None → (r : ℕ) → r < size d → HasOvers d (is_known g) r → (b : Bool)
    → is_read g r ≡ b
    → HasAll d g r ⊎ ((is_known g (left d r) ≡ false) × (is_known g (right d r) ≡ false))
closed_by d g sound stuck r lt has true e = inl (sound.rows r lt e)
closed_by d g sound stuck r lt has false e = inr (idle_row d g stuck r lt has e)

pub known_closed : (d : Diagram) (g : SeedProgress) → IsSound d g → next_step d g ≡ None → IsClosed d (is_known g)
known_closed d g sound stuck = record {
  rightward = λ r lt has at. elim (closed_by d g sound stuck r lt has (is_read g r) refl) [
    | inl all ↦ all.at_right
    | inr none ↦ absurd (both_ways (is_known g (left d r)) none.0 at)
  ];
  leftward = λ r lt has at. elim (closed_by d g sound stuck r lt has (is_read g r) refl) [
    | inl all ↦ all.at_left
    | inr none ↦ absurd (both_ways (is_known g (right d r)) none.1 at)
  ];
}

-- where all columns are known and no row does anything, each row was read
pub all_read : (d : Diagram) (g : SeedProgress) → IsGrid d → next_step d g ≡ None → ((c : ℕ) → c < size d → is_known g c ≡ true) → (r : ℕ) → r < size d
    → (b : Bool) → is_read g r ≡ b → is_read g r ≡ true
all_read d g grid stuck known r lt true e = e
all_read d g grid stuck known r lt false e =
    let ends = has_ends d grid r lt in
    let none = idle_row d g stuck r lt (λ c at over. known c at) e in
    absurd (both_ways (is_known g (right d r)) none.1 (known (right d r) ends.within))

-- the same of a way, whose steps lead from nothing
pub step_next : (d : Diagram) (steps : List Step) (g : SeedProgress) (s : Step) (found : Option Step) → IsGrid d → LeadsBySteps d nothing steps g
    → found ≡ next_step d g → found ≡ Some s
    → Next d g s
step_next d steps g s found grid leads is some = next_of d g s grid (sound_leads d nothing g steps grid (sound_nothing d) leads) (sym is ∙ some)

pub no_seed_more : (before after : List Step) (s : Step) → after ≡ before ++ s ∷ [] → is_seed s ≡ false → seeds_in after ≡ seeds_in before
no_seed_more before after s is none =
    let zero : ◌≡◌ {A = ℕ} (cond (is_seed s) 1 0) 0 = ap (λ b. cond b 1 0) none in
    ap seeds_in is ∙ omega (arith, seeds_more before s, zero)

pub one_seed_more : (before after : List Step) (c : ℕ) → after ≡ before ++ Seed c ∷ [] → seeds_in after ≡ seeds_in before + 1
one_seed_more before after c is = ap seeds_in is ∙ seeds_more before (Seed c)

-- a seed more
pub seed_reaches : (d : Diagram) (g h : SeedProgress) (c : ℕ) → Reaches d (progress_after d g (Seed c)) h → (p : ℕ → Bool) → IsClosed d p → HasKnown p g
    → p c ≡ true → HasKnown p h
seed_reaches d g h c reaches p closed has here = reaches.only p closed (λ x e. only_from d p g c has here x e)

-- where the seeds are all columns, memory alone can fail
pub memory_alone : (d : Diagram) (seeds : List ℕ) (e : SeedFault) → seeds ≡ range_with_len 0 (size d) → IsFault seeds d e → e ≡ OutOfMemory
memory_alone d seeds (Outside c) are fault =
    let lt : fault.0 < size d = omega (arith, fault.1, ap length are, length-range_with_len 0 (size d)) in
    let at : get_or seeds fault.0 0 ≡ fault.0 =
    ap (λ (xs : List ℕ). get_or xs fault.0 0) are ∙ (get_or-range_with_len 0 (size d) fault.0 0 lt ∙ omega arith) in
    absurd (omega (arith, lt, at, fault.2, fault.3))
memory_alone d seeds (Unsettled c) are fault =
    let at : get_or seeds c 0 ≡ c = ap (λ (xs : List ℕ). get_or xs c 0) are ∙ (get_or-range_with_len 0 (size d) c 0 fault.1 ∙ omega arith) in
    absurd (fault.2 (λ p closed has. subst (λ (k : ℕ). p k ≡ true) at
    (All-get_or (λ s. p s ≡ true) seeds c 0 (omega (arith, fault.1, ap length are, length-range_with_len 0 (size d))) has)))
memory_alone d seeds OutOfMemory are fault = refl
