use Rattle.std.proofs.Common.{◌≡◌, take}
use Rattle.colour_seeds.specs.Plan.{seed_columns}
use Rattle.colour_seeds.proofs.seeding.Seeding.seeds.Given as goal

abbrev pub invariant-loop-step : goal.invariant-loop-step
invariant-loop-step l = l.seeds.items ≡ seed_columns (take l.step-index l.self)
