use Rattle.std.proofs.Common.{◌≡◌, drop}
use Rattle.grid_moves.specs.Tidy.{are_tidy_behind, is_tidy}
use Rattle.grid_moves.proofs.tidy.is_tidy.Given as goal

abbrev pub invariant-loop-step : goal.invariant-loop-step
invariant-loop-step l = is_tidy l.steps ≡ are_tidy_behind l.before (drop l.step-index l.steps)
