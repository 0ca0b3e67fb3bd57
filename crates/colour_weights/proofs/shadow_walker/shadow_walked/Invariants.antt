use Rattle.std.proofs.Common.{◌≡◌, ◌<◌, ◌≤◌, ◌+◌, ◌-◌, fold, filter}
use Rattle.std.specs.Prelude.{slice_index}
use Rattle.std.specs.List.{range_with_len}
use Rattle.grid_core.specs.Parts.{covers}
use Rattle.colour_weights.specs.ShadowWalkSum.{region_start}
use Rattle.colour_weights.proofs.ByColumns.{step_at}
use Rattle.colour_weights.proofs.shadow_walker.shadow_walked.Given as goal

abbrev pub invariant-loop-column : goal.invariant-loop-column
invariant-loop-column l =
    (l.at ≡ fold (step_at l.cocycle l.grid l.colours)
    (record { colour = slice_index l.colours l.left; region = region_start l.cocycle.quandle l.grid l.colours l.outer l.row; sum = 0 })
    (filter (λ c. covers l.grid c l.row) (range_with_len (l.left + 1) (l.column - (l.left + 1)))))
    × (l.at.colour < l.cocycle.quandle.order) × (l.at.region < l.cocycle.quandle.order) × (l.at.sum < l.cocycle.modulus) × (l.left + 1 ≤ l.column)
