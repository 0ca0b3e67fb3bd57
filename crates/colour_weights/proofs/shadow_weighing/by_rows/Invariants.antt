use Rattle.std.proofs.Common.{◌≡◌, ◌<◌, ◌%◌}
use Rattle.std.specs.List.{range_with_len, sum_by}
use Rattle.colour_weights.specs.ShadowWalkSum.{shadow_row_weight}
use Rattle.colour_weights.proofs.shadow_weighing.by_rows.Given as goal

abbrev pub invariant-loop-row : goal.invariant-loop-row
invariant-loop-row l = (l.sum ≡ sum_by (shadow_row_weight l.cocycle l.grid l.colours.items l.outer) (range_with_len 0 l.row) % l.cocycle.modulus)
    × (l.sum < l.cocycle.modulus)
