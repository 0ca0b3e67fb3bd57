use Rattle.std.proofs.Common.{◌≡◌, ◌∙◌, ◌≤◌, ◌+◌, ◌-◌, ℕ, List, fold, filter, cond, ap, ap₂, sym, arith}
use Rattle.std.specs.Prelude.{slice_index}
use Rattle.std.specs.List.{range_with_len}
use Rattle.grid_core.specs.Diagram.{Diagram}
use Rattle.grid_core.specs.Parts.{covers}
use Rattle.colour_weights.specs.declared.walker.Walker.{Walker}
use Rattle.cocycle_core.specs.Cocycle.{Cochain}
use Rattle.colour_weights.proofs.Longer.{fold_longer}
use Rattle.colour_weights.proofs.Walks.{step_at}
use Rattle.colour_weights.proofs.walker.walked.Goals as goal

pub loop-column-preserved : goal.loop-column-preserved
loop-column-preserved c =
    let w : Cochain = c.args.cocycle.now in
    let d : Diagram = c.args.grid.now in
    let f : List ℕ = c.args.colours.now in
    let row : ℕ = c.args.row in
    let from : ℕ = c.ends-left.result.0 + 1 in
    let column : ℕ = c.loop-column.column in
    let start : Walker = record { colour = slice_index f c.ends-left.result.0; sum = 0 } in
    let so_far = c.loop-column.invariant in
    let low : from ≤ column = so_far.3 in
    let place : from + (column - from) ≡ column = omega (arith, low) in
    let gap : column - from + 1 ≡ column + 1 - from = omega (arith, low) in
    let whole = ap (λ n. fold (step_at w d f) start (filter (λ c. covers d c row) (range_with_len from n))) (sym gap)
    ∙ (fold_longer (step_at w d f) start (λ c. covers d c row) from (column - from)
    ∙ ap₂ (λ j (at : Walker). cond (covers d j row) (step_at w d f at j) at) place (sym so_far.0)) in
    (c.past-at.ensures.past ∙ sym whole, c.past-at.ensures.below.0, c.past-at.ensures.below.1, omega (arith, low))
