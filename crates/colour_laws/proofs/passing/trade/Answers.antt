use Rattle.std.proofs.Common.{◌∙◌, ◌+◌, ◌==◌, ap₂, cond, get_or}
use Rattle.grid_core.specs.Diagram.{size}
use Rattle.colour_laws.specs.Carried.{by_column}
use Rattle.colour_laws.proofs.Edited.{pair_set}
use Rattle.colour_laws.proofs.passing.trade.Goals as goal

pub returns : goal.returns
returns c =
    let n = size c.args.grid.now in
    let ys = c.args.colours.now in
    pair_set c.args.c (size c.args.grid.now) c.gone_left-left.result c.gone_right-right.result c.args.colours.now c.requires.inside c.requires.colours.0
    ∙ ap₂ (λ a b. by_column n (λ i. cond (i == c.args.c) a (cond (i == c.args.c + 1) b (get_or ys i 0)))) c.gone_left-left.ensures c.gone_right-right.ensures
