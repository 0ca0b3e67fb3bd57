-- Plans: steps by which the colours of the seeds give those of all columns, and test them.
use Rattle.std.specs.Prelude.{◌≡◌, ◌<◌, ℕ, List, [], ◌∷◌, Bool, true, false, not, ◌||◌, Option, Some, None, slice_index_or, slice_set}
use Rattle.std.specs.Prelude.{count_by, replicate, if◌then◌else◌}
use Rattle.std.specs.List.{range_with_len, list_all}
use Rattle.grid_core.specs.declared.grid.TheConstants.{MAX_SIZE}
use Rattle.grid_core.specs.Diagram.{Diagram, size}
use Rattle.grid_core.specs.Parts.{ends}
use Rattle.grid_core.specs.Crossing.{crosses}
use Rattle.quandle_core.specs.Fault.{first}
use Rattle.colour_seeds.specs.declared.progress.Step.{Step}
use Rattle.colour_seeds.specs.declared.progress.Step.TheVariants.{Seed, Rightward, Leftward, Test}
use Rattle.colour_seeds.specs.declared.progress.SeedProgress.{SeedProgress}

-- column c is known
abbrev pub is_known : SeedProgress → ℕ → Bool
is_known g c = slice_index_or g.known c false

-- row r was read
abbrev pub is_read : SeedProgress → ℕ → Bool
is_read g r = slice_index_or g.read r false

-- each column that passes over row r is known
abbrev pub overs_known : Diagram → SeedProgress → ℕ → Bool
overs_known d g r = list_all (λ c. not (crosses d c r) || is_known g c) (range_with_len 0 (size d))

-- what row r does, by whether its left and its right end are known
abbrev pub by_ends : ℕ → Bool → Bool → Option Step
by_ends r true true = Some (Test r)
by_ends r true false = Some (Rightward r)
by_ends r false true = Some (Leftward r)
by_ends r false false = None

-- what row r does: nothing where it was read, or where a column that passes over it is not known
abbrev pub row_step : Diagram → SeedProgress → ℕ → Option Step
row_step d g r = if is_read g r || not (overs_known d g r) then None else by_ends r (is_known g (ends d r).low) (is_known g (ends d r).high)

-- the step of the lowest row that does something
abbrev pub next_step : Diagram → SeedProgress → Option Step
next_step d g = first (size d) (row_step d g)

-- a seed is a column that is not known; a row does what it can
abbrev pub IsAllowed : Diagram → SeedProgress → Step → Type 0
IsAllowed d g (Seed c) = (c < size d) × (is_known g c ≡ false)
IsAllowed d g (Rightward r) = (r < size d) × (row_step d g r ≡ Some (Rightward r))
IsAllowed d g (Leftward r) = (r < size d) × (row_step d g r ≡ Some (Leftward r))
IsAllowed d g (Test r) = (r < size d) × (row_step d g r ≡ Some (Test r))

-- what is known and read behind a step
abbrev pub progress_after : Diagram → SeedProgress → Step → SeedProgress
progress_after d g (Seed c) = record { known = slice_set g.known c true; read = g.read }
progress_after d g (Rightward r) = record { known = slice_set g.known (ends d r).high true; read = slice_set g.read r true }
progress_after d g (Leftward r) = record { known = slice_set g.known (ends d r).low true; read = slice_set g.read r true }
progress_after d g (Test r) = record { known = g.known; read = slice_set g.read r true }

-- steps that are allowed one after the other lead from one progress to another
abbrev pub LeadsBySteps : Diagram → SeedProgress → List Step → SeedProgress → Type 0
LeadsBySteps d g [] h = g ≡ h
LeadsBySteps d g (step ∷ steps) h = IsAllowed d g step × LeadsBySteps d (progress_after d g step) steps h

-- nothing is known
abbrev pub nothing : SeedProgress
nothing = record { known = replicate MAX_SIZE false; read = replicate MAX_SIZE false }

-- the steps lead from nothing to where each column is known and each row was read
pub record IsPlan (d : Diagram) (steps : List Step) : Type 0 where
  pub last : SeedProgress
  pub leads : LeadsBySteps d nothing steps last
  pub known : (c : ℕ) → c < size d → is_known last c ≡ true
  pub read : (r : ℕ) → r < size d → is_read last r ≡ true

-- the step is that of a seed
abbrev pub is_seed : Step → Bool
is_seed (Seed c) = true
is_seed (Rightward r) = false
is_seed (Leftward r) = false
is_seed (Test r) = false

-- how many columns are seeds
abbrev pub seeds_in : List Step → ℕ
seeds_in steps = count_by is_seed steps

-- which columns are seeds, in the order in which they take colours
abbrev pub seed_columns : List Step → List ℕ
seed_columns [] = []
seed_columns (Seed c ∷ steps) = c ∷ seed_columns steps
seed_columns (Rightward r ∷ steps) = seed_columns steps
seed_columns (Leftward r ∷ steps) = seed_columns steps
seed_columns (Test r ∷ steps) = seed_columns steps
