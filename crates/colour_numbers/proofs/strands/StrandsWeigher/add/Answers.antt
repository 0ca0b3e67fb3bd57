use Rattle.std.proofs.Common.{◌∙◌, ℕ, take, refl, ap}
use Rattle.colour_weights.specs.WalkSum.{weight_by_rows}
use Rattle.colour_numbers.proofs.StrandTallies.{tallied_one}
use Rattle.colour_numbers.proofs.strands.StrandsWeigher.add.Goals as goal

pub returns : goal.returns
returns c =
    let w = c.args.self.now.cocycle.now in
    let d = c.args.self.now.grid.now in
    tallied_one w d c.args.counts.now c.args.colours.now c.weight_by_rows-weight.result _ c.requires.long
    (c.weight_by_rows-weight.ensures.weight
    ∙ (ap (weight_by_rows w d) c.split_at.ensures.front
    ∙ ap (λ (n : ℕ). weight_by_rows w d (take n c.args.colours.now)) c.size.ensures.size))
    c.weight_by_rows-weight.ensures.below refl
