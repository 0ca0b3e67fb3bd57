use Rattle.std.proofs.Common.{◌≡◌, ◌<◌, ◌+◌, ◌∙◌, ℕ, List, length, take, get_or, sym, ap, subst, arith}
use Rattle.std.specs.Prelude.{slice_index, slice_set}
use Rattle.std.specs.List.{All}
use Rattle.std.proofs.lemmas.List.{length-take}
use Rattle.grid_core.specs.Diagram.{size}
use Rattle.quandle_core.specs.Quandle.{Table}
use Rattle.colour_weights.specs.ShadowWalkSum.{shadow_weight_by_rows}
use Rattle.colour_numbers.specs.declared.lane.Lane.{Lane}
use Rattle.colour_numbers.specs.Lanes.{weight_by_lanes}
use Rattle.colour_numbers.specs.Shadows.{Shadows}
use Rattle.colour_numbers.specs.Weighing.{LaneIsWithin}
use Rattle.colour_numbers.proofs.Lanes.{lanes_within, weight_is}
use Rattle.colour_numbers.proofs.ShadowTallies.{partly_all, partly_more, partly_none, partly_room}
use Rattle.colour_numbers.proofs.regions.RegionsWeigher.add.Goals as goal

pub loop-outer-init : goal.loop-outer-init
loop-outer-init c = partly_none c.args.self.now.cocycle c.args.self.now.diagram c.args.counts.now c.args.colours.now c.requires.long

pub weight_of-weight-requires-clause-within : goal.weight_of-weight-requires-clause-within
weight_of-weight-requires-clause-within c =
    let d = c.self.inside.grid.now in
    let long : length (take c.size.result c.args.colours.now) ≡ size d =
    omega (arith, length-take c.size.result c.args.colours.now, c.size.ensures.size, c.requires.colours.0, c.size-size.ensures.grid.most) in
    subst (λ (n : ℕ). All (LaneIsWithin n) c.as_slice.result.now) (sym (ap (λ (xs : List ℕ). length xs) c.split_at.ensures.front ∙ long))
    (subst (All (LaneIsWithin (size d))) (sym c.as_slice.ensures.value) (lanes_within d c.size-size.ensures.grid c.self.inside.lanes.items c.self.invariant.1))

pub loop-outer-preserved : goal.loop-outer-preserved
loop-outer-preserved c =
    let s = c.args.self.now in
    let w = c.self.inside.cocycle.now in
    let d = c.self.inside.grid.now in
    let f = c.args.colours.now in
    let n = c.loop-outer.outer in
    let u = c.weight_of-weight.result in
    let xs = c.split_at.result.0.now in
    let is = c.weight_of-weight.ensures.weight
    ∙ (ap (λ (ls : List Lane). weight_by_lanes w ls xs n) c.as_slice.ensures.value
    ∙ (weight_is w d c.self.inside.lanes.items xs n c.self.invariant.1
    ∙ (ap (λ (xs : List ℕ). shadow_weight_by_rows w d xs n) c.split_at.ensures.front
    ∙ (ap (λ (k : ℕ). shadow_weight_by_rows w d (take k f) n) c.size.ensures.size
    ∙ ap (λ (s : Shadows). shadow_weight_by_rows s.cocycle s.diagram (take (size s.diagram) f) n) c.self.view_is)))) in
    let below : u < s.cocycle.modulus = subst (λ (s : Shadows). u < s.cocycle.modulus) c.self.view_is c.weight_of-weight.ensures.below in
    ap (λ (xs : List ℕ). slice_set xs u (slice_index xs u + 1)) c.loop-outer.invariant
    ∙ partly_more s.cocycle s.diagram c.args.counts.now f n u is below

pub overflow_add-counts : goal.overflow_add-counts
overflow_add-counts c =
    let s = c.args.self.now in
    let u = c.weight_of-weight.result in
    let below : u < s.cocycle.modulus = subst (λ (s : Shadows). u < s.cocycle.modulus) c.self.view_is c.weight_of-weight.ensures.below in
    let here = ap (λ (xs : List ℕ). get_or xs u 0) c.loop-outer.invariant in
    let few = partly_room s.cocycle s.diagram c.args.counts.now c.args.colours.now c.loop-outer.outer u below in
    let order = ap (λ (t : Table). t.order) c.self.invariant.0 in
    let same = ap (λ (s : Shadows). s.cocycle.quandle.order) c.self.view_is in
    record { fits = omega (arith, here, few, c.requires.room u below, c.loop-outer-test.true, c.order-outer-end.ensures.order, order, same) }

pub returns : goal.returns
returns c =
    let s = c.args.self.now in
    let order = ap (λ (t : Table). t.order) c.self.invariant.0 in
    let same = ap (λ (s : Shadows). s.cocycle.quandle.order) c.self.view_is in
    c.loop-outer.invariant
    ∙ partly_all s.cocycle s.diagram c.args.counts.now c.args.colours.now c.loop-outer.outer
    (omega (arith, order, same, c.order-outer-end.ensures.order, c.loop-outer-test.false, c.loop-outer.auto.outer-end))
