use Rattle.std.proofs.Common.{◌≡◌, ◌<◌, fold, take, get_or}
use Rattle.colour_rows.specs.declared.equation.Pass.{Pass}
use Rattle.colour_weights.specs.declared.shadow_walker.ShadowWalker.{ShadowWalker}
use Rattle.colour_weights.specs.ShadowWalkSum.{shadow_stepped}
use Rattle.colour_numbers.specs.Lanes.{lane_region_start}
use Rattle.colour_numbers.specs.Weighing.{walker_of}
use Rattle.colour_numbers.proofs.lane_weight.lane_walked.Given as goal

abbrev pub invariant-loop-pass : goal.invariant-loop-pass
invariant-loop-pass l =
    (walker_of l.at ≡ fold (λ (at : ShadowWalker) (p : Pass). shadow_stepped l.cocycle p.up at (get_or l.colours p.column 0))
    (record { colour = get_or l.colours l.lane.row.left_end 0; region = lane_region_start l.cocycle.quandle l.lane l.colours l.outer; sum = 0 })
    (take l.pass-index l.lane.passed.items))
    × (l.at.colour < l.cocycle.quandle.order) × (l.at.region < l.cocycle.quandle.order) × (l.at.sum < l.cocycle.modulus)
