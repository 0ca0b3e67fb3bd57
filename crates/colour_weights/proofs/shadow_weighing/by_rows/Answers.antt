use Rattle.std.proofs.Common.{◌≡◌, ◌∙◌, ◌+◌, ◌%◌, ◌<◌, ℕ, List, ap, ap₂, sym, arith}
use Rattle.std.specs.List.{range_with_len, sum_by}
use Rattle.grid_core.specs.Diagram.{Diagram}
use Rattle.cocycle_core.specs.ShadowCocycle.{ShadowCochain}
use Rattle.colour_weights.specs.ShadowWalkSum.{shadow_row_weight}
use Rattle.colour_weights.proofs.Longer.{sum_longer}
use Rattle.colour_weights.proofs.RowCounts.{add_mod}
use Rattle.colour_weights.proofs.shadow_weighing.by_rows.Goals as goal

pub loop-row-preserved : goal.loop-row-preserved
loop-row-preserved c =
    let w : ShadowCochain = c.args.cocycle.now in
    let d : Diagram = c.args.grid.now in
    let f : List ℕ = c.args.colours.now.items in
    let k : ℕ = c.args.cocycle.now.modulus in
    let row : ℕ = c.loop-row.row in
    let least = c.modulus-modulus.ensures.cocycle.least in
    let some : 0 < c.args.cocycle.now.modulus = omega (arith, least) in
    let so_far = sum_by (shadow_row_weight w d f c.args.outer) (range_with_len 0 row) in
    let modulus = c.modulus-modulus.ensures.modulus in
    let term : c.shadow_row_weight.result ≡ shadow_row_weight w d f c.args.outer row = c.shadow_row_weight.ensures.weight
    ∙ ap (λ l. shadow_row_weight w d l c.args.outer row) c.as_slice.ensures.value in
    let sum : c.plus-sum.result ≡ (sum_by (shadow_row_weight w d f c.args.outer) (range_with_len 0 row) % c.args.cocycle.now.modulus
    + shadow_row_weight w d f c.args.outer row)
    % c.args.cocycle.now.modulus =
    c.plus-sum.ensures.sum ∙ ap₂ (λ a m. a % m) (ap₂ (λ a b. a + b) c.loop-row.invariant.0 term) modulus in
    let below = c.plus-sum.ensures.below in (
      sum ∙ (add_mod k (sum_by (shadow_row_weight w d f c.args.outer) (range_with_len 0 row)) (shadow_row_weight w d f c.args.outer row) some
          ∙ ap (λ s. s % c.args.cocycle.now.modulus) (sym (sum_longer (shadow_row_weight w d f c.args.outer) row))),
      omega (arith, below, modulus),
    )
