use Rattle.std.proofs.Common.{◌≡◌, ◌∙◌, ◌≤◌, ◌+◌, ◌-◌, ℕ, List, fold, filter, cond, ap, ap₂, sym, arith}
use Rattle.std.specs.Prelude.{slice_index}
use Rattle.std.specs.List.{range_with_len}
use Rattle.grid_core.specs.Diagram.{Diagram}
use Rattle.grid_core.specs.Parts.{covers}
use Rattle.colour_weights.specs.declared.shadow_walker.ShadowWalker.{ShadowWalker}
use Rattle.cocycle_core.specs.ShadowCocycle.{ShadowCochain}
use Rattle.colour_weights.proofs.Longer.{fold_longer}
use Rattle.colour_weights.specs.ShadowWalkSum.{region_start}
use Rattle.colour_weights.proofs.ByColumns.{step_at}
use Rattle.colour_weights.proofs.shadow_walker.shadow_walked.Goals as goal

pub loop-column-preserved : goal.loop-column-preserved
loop-column-preserved c =
    let w : ShadowCochain = c.args.cocycle.now in
    let d : Diagram = c.args.grid.now in
    let f : List ℕ = c.args.colours.now in
    let row : ℕ = c.args.row in
    let from : ℕ = c.ends-left.result.0 + 1 in
    let column : ℕ = c.loop-column.column in
    let start : ShadowWalker = record {
      colour = slice_index f c.ends-left.result.0;
      region = region_start w.quandle d f c.args.outer row;
      sum = 0;
    } in
    let so_far = c.loop-column.invariant in
    let low : from ≤ column = so_far.4 in
    let place : from + (column - from) ≡ column = omega (arith, low) in
    let gap : column - from + 1 ≡ column + 1 - from = omega (arith, low) in
    let whole = ap (λ n. fold (step_at w d f) start (filter (λ c. covers d c row) (range_with_len from n))) (sym gap)
    ∙ (fold_longer (step_at w d f) start (λ c. covers d c row) from (column - from)
    ∙ ap₂ (λ j (at : ShadowWalker). cond (covers d j row) (step_at w d f at j) at) place (sym so_far.0)) in (
      c.shadow_past-at.ensures.past ∙ sym whole,
      c.shadow_past-at.ensures.below.0,
      c.shadow_past-at.ensures.below.1,
      c.shadow_past-at.ensures.below.2,
      omega (arith, low),
    )

pub loop-column-init : goal.loop-column-init
loop-column-init c =
    let w : ShadowCochain = c.args.cocycle.now in
    let d : Diagram = c.args.grid.now in
    let f : List ℕ = c.args.colours.now in
    let left : ℕ = c.ends-left.result.0 in
    let none : 0 ≡ c.ends-left.result.0 + 1 - (c.ends-left.result.0 + 1) = omega arith in
    let start : ℕ → ShadowWalker = λ i. record {
      colour = slice_index f i;
      region = region_start w.quandle d f c.args.outer c.args.row;
      sum = 0;
    } in (
      c.set_out-at.ensures.start
          ∙ (ap start (sym c.ends-left.ensures.left)
          ∙ ap (λ n. fold (step_at w d f) (start left) (filter (λ c'. covers d c' c.args.row) (range_with_len (left + 1) n))) none),
      c.set_out-at.ensures.below.0,
      c.set_out-at.ensures.below.1,
      c.set_out-at.ensures.below.2,
      omega arith,
    )
