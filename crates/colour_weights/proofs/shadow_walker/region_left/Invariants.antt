use Rattle.std.proofs.Common.{◌≡◌, ◌<◌, fold, filter}
use Rattle.std.specs.List.{range_with_len}
use Rattle.grid_core.specs.Parts.{covers}
use Rattle.colour_rows.specs.Walk.{under}
use Rattle.colour_weights.proofs.shadow_walker.region_left.Given as goal

abbrev pub invariant-loop-column : goal.invariant-loop-column
invariant-loop-column l =
    (l.region ≡ fold (under l.cocycle.quandle l.grid l.colours) l.outer (filter (λ c. covers l.grid c l.row) (range_with_len 0 l.column)))
    × (l.region < l.cocycle.quandle.order)
