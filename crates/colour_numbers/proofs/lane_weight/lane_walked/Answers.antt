use Rattle.std.proofs.Common.{◌<◌, ◌∙◌, ℕ, false, get_or, ap, ap₂, arith}
use Rattle.std.proofs.lemmas.List.Elements.{All-get_or}
use Rattle.quandle_core.specs.Quandle.{Table}
use Rattle.colour_weights.specs.declared.shadow_walker.ShadowWalker.{ShadowWalker}
use Rattle.colour_numbers.specs.Lanes.{lane_region_start}
use Rattle.colour_numbers.specs.Weighing.{walker_of}
use Rattle.colour_numbers.proofs.Lanes.{walked_more}
use Rattle.colour_numbers.proofs.lane_weight.lane_walked.Goals as goal

pub loop-pass-init : goal.loop-pass-init
loop-pass-init c =
    let order = ap (λ (t : Table). t.order) c.quandle-quandle.ensures in
    let start : ℕ → ℕ → ShadowWalker = λ x w. record { colour = x; region = w; sum = 0 } in (
      ap₂ start (ap (λ (i : ℕ). get_or c.args.colours.now i 0) c.left.ensures)
          (c.lane_region_start-region.ensures.region
          ∙ ap (λ (t : Table). lane_region_start t c.args.lane.now c.args.colours.now c.args.outer) c.quandle-quandle.ensures),
      All-get_or (λ y. y < c.args.cocycle.now.quandle.order) c.args.colours.now c.left.result 0 (omega (arith, c.left.ensures, c.requires.within.left))
          c.requires.below,
      omega (arith, c.lane_region_start-region.ensures.below, order),
      omega (arith, c.modulus-modulus.ensures.cocycle.least),
    )

pub loop-pass-preserved : goal.loop-pass-preserved
loop-pass-preserved c =
    let start : ShadowWalker = record {
      colour = get_or c.args.colours.now c.args.lane.now.row.left_end 0;
      region = lane_region_start c.args.cocycle.now.quandle c.args.lane.now c.args.colours.now c.args.outer;
      sum = 0;
    } in (
      walked_more c.args.cocycle.now c.args.colours.now start c.args.lane.now.passed.items c.as_slice-pass-items.result.now c.loop-pass.pass-index
          (record { column = 0; up = false }) (walker_of c.loop-pass.at) (walker_of c.stepped-at.result) c.as_slice-pass-items.ensures.value
          c.loop-pass-test.true c.loop-pass.invariant.0 c.stepped-at.ensures.stepped,
      c.stepped-at.ensures.below.0,
      c.stepped-at.ensures.below.1,
      c.stepped-at.ensures.below.2,
    )
