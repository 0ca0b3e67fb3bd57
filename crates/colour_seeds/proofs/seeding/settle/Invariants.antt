use Rattle.std.proofs.Common.{◌≡◌}
use Rattle.colour_seeds.specs.Plan.{LeadsBySteps, nothing, seed_columns, seeds_in}
use Rattle.colour_seeds.specs.Seeded.{Reaches}
use Rattle.colour_seeds.proofs.Ways.{unread}
use Rattle.colour_seeds.proofs.seeding.settle.Given as goal

abbrev pub invariant-loop-step : goal.invariant-loop-step
invariant-loop-step l = record {
  leads : LeadsBySteps l.grid nothing l.way.steps.items l.way.progress;
  reaches : Reaches l.grid l.fn.way.progress l.way.progress;
  seeds : seed_columns l.way.steps.items ≡ seed_columns l.fn.way.steps.items;
  few : seeds_in l.way.steps.items ≡ seeds_in l.fn.way.steps.items;
}

abbrev pub decreases-loop-step : goal.decreases-loop-step
decreases-loop-step l = unread l.way.progress
