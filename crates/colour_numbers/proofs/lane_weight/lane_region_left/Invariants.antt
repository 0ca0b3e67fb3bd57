use Rattle.std.proofs.Common.{◌≡◌, ◌<◌, ℕ, fold, take, get_or}
use Rattle.colour_rows.specs.declared.equation.Pass.{Pass}
use Rattle.colour_rows.specs.Walk.{passed_rightward}
use Rattle.colour_numbers.proofs.lane_weight.lane_region_left.Given as goal

abbrev pub invariant-loop-pass : goal.invariant-loop-pass
invariant-loop-pass l =
    (l.region ≡ fold (λ (w : ℕ) (p : Pass). passed_rightward l.quandle p.up w (get_or l.colours p.column 0)) l.outer (take l.pass-index l.lane.before.items))
    × (l.region < l.quandle.order)
