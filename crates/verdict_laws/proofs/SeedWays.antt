-- From any columns the rows lead as far as they do: so columns settle a diagram, by a plan, or they are at fault.
use Rattle.std.proofs.Common.{◌≡◌, ◌<◌, ◌≤◌, ◌+◌, ◌++◌, ◌∙◌, ◌⊎◌, inl, inr, ℕ, zero, suc, List, [], ◌∷◌, Bool, true, false, Option, Some, None, length}
use Rattle.std.proofs.Common.{slice_index, refl, subst, arith}
use Rattle.std.specs.List.{All}
use Rattle.std.proofs.lemmas.Bool.{cases_lt, both_ways}
use Rattle.std.proofs.lemmas.List.Elements.{All-nil, All-cons, All-head, All-tail}
use Rattle.grid_core.specs.Diagram.{Diagram, IsGrid, size}
use Rattle.colour_seeds.specs.Settled.{Determine, IsSettled}
use Rattle.colour_seeds.specs.Seeded.{HasKnown, IsFault, Reaches}
use Rattle.colour_seeds.specs.declared.seeding.SeedFault.TheVariants.{Outside, Unsettled}
use Rattle.colour_seeds.specs.declared.progress.Step.{Step}
use Rattle.colour_seeds.specs.declared.progress.Step.TheVariants.{Seed}
use Rattle.colour_seeds.specs.declared.progress.SeedProgress.{SeedProgress}
use Rattle.colour_seeds.specs.Plan.{is_known, is_read, next_step, progress_after, nothing, LeadsBySteps, seeds_in, IsPlan}
use Rattle.colour_seeds.proofs.Ways.{Next, step_next, step_keeps, leads_more, reaches_itself, reaches_more, no_seed_more, one_seed_more, seed_reaches}
use Rattle.colour_seeds.proofs.Ways.{unread, mark_here, nothing_known, sound_leads, sound_nothing, known_closed, all_read}

-- ---- all that follows from what is known

record EndOf (d : Diagram) (g : SeedProgress) (before : List Step) : Type 0 where
  steps : List Step
  last : SeedProgress
  leads : LeadsBySteps d nothing steps last
  stuck : next_step d last ≡ None
  reaches : Reaches d g last
  few : seeds_in steps ≡ seeds_in before

then_on : (d : Diagram) (g h k : SeedProgress) → Reaches d g h → Reaches d h k → Reaches d g k
then_on d g h k first second = record {
  keeps = λ c e. second.keeps c (first.keeps c e);
  only = λ p closed from. second.only p closed (first.only p closed from);
}

end_of : (n : ℕ) (d : Diagram) (g : SeedProgress) (steps : List Step) → IsGrid d → LeadsBySteps d nothing steps g → unread g < n → EndOf d g steps
end_of zero d g steps grid leads few = absurd (omega (arith, few))
end_of (suc n) d g steps grid leads few = by (next_step d g) refl (λ h later on fewer. end_of n d h later grid on fewer)
  where
    by : (o : Option Step) → next_step d g ≡ o → ((h : SeedProgress) (later : List Step) → LeadsBySteps d nothing later h → unread h < n → EndOf d h later)
        → EndOf d g steps
    by None stuck again = record { steps = steps; last = g; leads = leads; stuck = stuck; reaches = reaches_itself d g; few = refl }
    by (Some s) is again =
        let next : Next d g s = step_next d steps g s (next_step d g) grid leads refl is in
        let rest = again (progress_after d g s) (steps ++ s ∷ []) (leads_more d nothing g steps s leads next.allowed) (omega (arith, next.falls, few)) in
        record {
          steps = rest.steps;
          last = rest.last;
          leads = rest.leads;
          stuck = rest.stuck;
          reaches = then_on d g (progress_after d g s) rest.last (reaches_more d g g s next (reaches_itself d g)) rest.reaches;
          few = rest.few ∙ no_seed_more steps (steps ++ s ∷ []) s refl next.no_seed;
        }

-- ---- all that follows from seeds

-- steps by these seeds that lead from nothing to where no row does anything
pub record WayOf (d : Diagram) (seeds : List ℕ) : Type 0 where
  pub steps : List Step
  pub last : SeedProgress
  pub leads : LeadsBySteps d nothing steps last
  pub stuck : next_step d last ≡ None
  pub taken : All (λ s. is_known last s ≡ true) seeds
  pub settled : (c : ℕ) → is_known last c ≡ true → IsSettled d seeds c
  pub few : seeds_in steps ≤ length seeds

all_known : (g h : SeedProgress) (seeds : List ℕ) → HasKnown (is_known h) g → All (λ s. is_known g s ≡ true) seeds → All (λ s. is_known h s ≡ true) seeds
all_known g h [] keeps all = All-nil (λ s. is_known h s ≡ true)
all_known g h (s ∷ seeds) keeps all =
    All-cons (λ s. is_known h s ≡ true) s seeds (keeps s (All-head (λ s. is_known g s ≡ true) s seeds all))
    (all_known g h seeds keeps (All-tail (λ s. is_known g s ≡ true) s seeds all))

begun : (d : Diagram) → IsGrid d → WayOf d []
begun d grid =
    let w = end_of (unread nothing + 1) d nothing [] grid refl (omega arith) in
    record {
      steps = w.steps;
      last = w.last;
      leads = w.leads;
      stuck = w.stuck;
      taken = All-nil (λ s. is_known w.last s ≡ true);
      settled = λ c e p closed has. w.reaches.only p closed (λ x known. absurd (both_ways (is_known nothing x) (nothing_known x) known)) c e;
      few = omega (arith, w.few);
    }

seed_more : (d : Diagram) (s : ℕ) (seeds : List ℕ) → IsGrid d → s < size d → WayOf d seeds → WayOf d (s ∷ seeds)
seed_more d s seeds grid inside w = by (is_known w.last s) refl
  where
    wider : (c : ℕ) → IsSettled d seeds c → IsSettled d (s ∷ seeds) c
    wider c settled p closed has = settled p closed (All-tail (λ x. p x ≡ true) s seeds has)

    by : (t : Bool) → is_known w.last s ≡ t → WayOf d (s ∷ seeds)
    by true known = record {
      steps = w.steps;
      last = w.last;
      leads = w.leads;
      stuck = w.stuck;
      taken = All-cons (λ x. is_known w.last x ≡ true) s seeds known w.taken;
      settled = λ c e. wider c (w.settled c e);
      few = omega (arith, w.few);
    }
    by false unknown =
        let g = w.last in
        let h = progress_after d g (Seed s) in
        let steps = w.steps ++ Seed s ∷ [] in
        let more = end_of (unread h + 1) d h steps grid (leads_more d nothing g w.steps (Seed s) w.leads (inside, unknown)) (omega arith) in
        let one = one_seed_more w.steps steps s refl in
        let long = (sound_leads d nothing g w.steps grid (sound_nothing d) w.leads).known_long in
        let here : is_known h s ≡ true = mark_here g.known s (omega (arith, inside, grid.most, long)) in
        let keeps : HasKnown (is_known more.last) g = λ c e. more.reaches.keeps c (step_keeps d g (Seed s) c e) in
        record {
          steps = more.steps;
          last = more.last;
          leads = more.leads;
          stuck = more.stuck;
          taken = All-cons (λ x. is_known more.last x ≡ true) s seeds (more.reaches.keeps s here) (all_known g more.last seeds keeps w.taken);
          settled = λ c e p closed has.
              seed_reaches d g more.last s more.reaches p closed
              (λ x known. w.settled x known p closed (All-tail (λ x. p x ≡ true) s seeds has)) (All-head (λ x. p x ≡ true) s seeds has) c e;
          few = omega (arith, w.few, one, more.few);
        }

pub way_of : (d : Diagram) (seeds : List ℕ) → IsGrid d → All (λ s. s < size d) seeds → WayOf d seeds
way_of d [] grid inside = begun d grid
way_of d (s ∷ seeds) grid inside =
    seed_more d s seeds grid (All-head (λ s. s < size d) s seeds inside) (way_of d seeds grid (All-tail (λ s. s < size d) s seeds inside))

-- ---- the first fault

first_outside : (d : Diagram) (seeds : List ℕ) → All (λ s. s < size d) seeds ⊎ ((c : ℕ) × IsFault seeds d (Outside c))
first_outside d [] = inl (All-nil (λ s. s < size d))
first_outside d (s ∷ seeds) = elim (cases_lt s (size d)) [
  | inl inside ↦ elim (first_outside d seeds) [
    | inl all ↦ inl (All-cons (λ s. s < size d) s seeds inside all)
    | inr some ↦ inr (some.0, later s seeds some.0 inside some.1)
  ]
  | inr outside ↦ inr (s, (0, omega arith, refl, outside, λ j lt. absurd (omega (arith, lt))))
]
  where
    later : (s : ℕ) (seeds : List ℕ) (c : ℕ) → s < size d → IsFault seeds d (Outside c) → IsFault (s ∷ seeds) d (Outside c)
    later s seeds c inside fault = (suc fault.0, omega (arith, fault.1), fault.2, fault.3, before)
      where
        before : (j : ℕ) → j < suc fault.0 → slice_index (s ∷ seeds) j < size d
        before zero lt = inside
        before (suc j) lt = fault.4 j (omega (arith, lt))

-- the first column that is not known
abbrev FirstUnknown : ℕ → SeedProgress → Type 0
FirstUnknown n g = (c : ℕ) × ((c < n) × ((is_known g c ≡ false) × ((b : ℕ) → b < c → is_known g b ≡ true)))

first_unknown : (n : ℕ) (g : SeedProgress) → ((c : ℕ) → c < n → is_known g c ≡ true) ⊎ FirstUnknown n g
first_unknown zero g = inl (λ c lt. absurd (omega (arith, lt)))
first_unknown (suc n) g = elim (first_unknown n g) [
  | inl all ↦ by (is_known g n) refl all
  | inr some ↦ inr (some.0, (omega (arith, some.1.0), (some.1.1.0, some.1.1.1)))
]
  where
    by : (t : Bool) → is_known g n ≡ t → ((c : ℕ) → c < n → is_known g c ≡ true) → ((c : ℕ) → c < suc n → is_known g c ≡ true) ⊎ FirstUnknown (suc n) g
    by true known all = inl each
      where
        each : (c : ℕ) → c < suc n → is_known g c ≡ true
        each c lt = elim (cases_lt c n) [
          | inl less ↦ all c less
          | inr last ↦ let same : n ≡ c = omega (arith, lt, last) in subst (λ (k : ℕ). is_known g k ≡ true) same known
        ]
    by false unknown all = inr (n, (omega arith, (unknown, all)))

-- seeds settle a diagram or are at fault
pub determine_or_fault : (d : Diagram) (seeds : List ℕ) → IsGrid d
    → Determine seeds d ⊎ (((c : ℕ) × IsFault seeds d (Outside c)) ⊎ ((c : ℕ) × IsFault seeds d (Unsettled c)))
determine_or_fault d seeds grid = elim (first_outside d seeds) [
  | inr outside ↦ inr (inl outside)
  | inl inside ↦ columns inside (way_of d seeds grid inside)
]
  where
    columns : All (λ s. s < size d) seeds → WayOf d seeds
        → Determine seeds d ⊎ (((c : ℕ) × IsFault seeds d (Outside c)) ⊎ ((c : ℕ) × IsFault seeds d (Unsettled c)))
    columns inside w = elim (first_unknown (size d) w.last) [
      | inl all ↦ inl (record { columns = inside; all = λ c lt. w.settled c (all c lt) })
      | inr some ↦
          let c = some.0 in
          let closed = known_closed d w.last (sound_leads d nothing w.last w.steps grid (sound_nothing d) w.leads) w.stuck in
          inr (inr (
            c,
            (
              inside,
              some.1.0,
              λ settled. both_ways (is_known w.last c) some.1.1.0 (settled (is_known w.last) closed w.taken),
              λ b lt. w.settled b (some.1.1.1 b lt),
            ),
          ))
    ]

-- ---- a plan

-- seeds that settle a diagram have a plan, with no more seeds than they are
pub plan_there : (d : Diagram) (seeds : List ℕ) → IsGrid d → Determine seeds d → (steps : List Step) × (IsPlan d steps × (seeds_in steps ≤ length seeds))
plan_there d seeds grid determine =
    let w = way_of d seeds grid determine.columns in
    let closed = known_closed d w.last (sound_leads d nothing w.last w.steps grid (sound_nothing d) w.leads) w.stuck in
    let known = λ (c : ℕ) (lt : c < size d). determine.all c lt (is_known w.last) closed w.taken in (
      w.steps,
      (
        record {
          last = w.last;
          leads = w.leads;
          known = known;
          read = λ r lt. all_read d w.last grid w.stuck known r lt (is_read w.last r) refl;
        },
        w.few,
      ),
    )
