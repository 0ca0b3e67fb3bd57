use Rattle.std.proofs.Common.{◌≡◌, ◌<◌, ◌≤◌, ℕ, true, get_or}
use Rattle.std.specs.List.{All, Contains}
use Rattle.colour_seeds.specs.Settled.{IsSettled}
use Rattle.colour_seeds.specs.Plan.{LeadsBySteps, nothing, is_known, seed_columns, seeds_in}
use Rattle.colour_seeds.proofs.seeding.way_of.Given as goal

abbrev pub invariant-loop-seed : goal.invariant-loop-seed
invariant-loop-seed l = record {
  leads : LeadsBySteps l.grid nothing l.way.steps.items l.way.progress;
  taken : (k : ℕ) → k < l.seed-index → is_known l.way.progress (get_or l.seeds k 0) ≡ true;
  settled : (c : ℕ) → is_known l.way.progress c ≡ true → IsSettled l.grid l.seeds c;
  among : All (Contains l.seeds) (seed_columns l.way.steps.items);
  few : seeds_in l.way.steps.items ≤ l.seed-index;
}
