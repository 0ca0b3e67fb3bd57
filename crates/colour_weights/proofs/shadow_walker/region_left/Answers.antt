use Rattle.std.proofs.Common.{◌≡◌, ◌∙◌, ◌+◌, ℕ, List, cond, ap₂, sym, arith}
use Rattle.grid_core.specs.Diagram.{Diagram}
use Rattle.grid_core.specs.Parts.{covers}
use Rattle.quandle_core.specs.Quandle.{Table}
use Rattle.colour_rows.specs.Walk.{under}
use Rattle.colour_weights.proofs.Longer.{fold_longer}
use Rattle.colour_weights.proofs.shadow_walker.region_left.Goals as goal

pub loop-column-preserved : goal.loop-column-preserved
loop-column-preserved c =
    let t : Table = c.args.cocycle.now.quandle in
    let d : Diagram = c.args.grid.now in
    let f : List ℕ = c.args.colours.now in
    let row : ℕ = c.args.row in
    let column : ℕ = c.loop-column.column in
    let so_far = c.loop-column.invariant in
    let place : 0 + column ≡ column = omega arith in
    let whole = fold_longer (under t d f) c.args.outer (λ c. covers d c row) 0 column
    ∙ ap₂ (λ j a. cond (covers d j row) (under t d f a j) a) place (sym so_far.0) in
    (c.across-region.ensures.across ∙ sym whole, c.across-region.ensures.below)
