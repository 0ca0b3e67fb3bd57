use Rattle.std.proofs.Common.{◌≡◌, ◌+◌, ◌*◌, ◌/◌, ◌%◌, ◌++◌, ◌∙◌, List, ℕ, map, ap}
use Rattle.std.specs.List.{range_with_len}
use Rattle.std.specs.Prelude.{slice_index}
use Rattle.std.proofs.lemmas.Nat.{div-add-mod'}
use Rattle.quandle_core.specs.Quandle.{over}
use Rattle.cocycle_core.specs.ShadowCocycle.{ShadowCochain, shadow_value}
use Rattle.knot_text.proofs.LineTexts.{rows_more, row_line}
use Rattle.certificates.specs.Shadows.{shadow_rows}
use Rattle.certificates.proofs.shadows.push_values.Goals as goal

-- the values of the two colours of a row
row_is : (t : ShadowCochain) (k q : ℕ) (row : List ℕ) → q ≡ t.quandle.order → row ≡ map (shadow_value t (k / q) (k % q)) (range_with_len 0 t.quandle.order)
    → row ≡ map (over (shadow_rows t) k) (range_with_len 0 t.quandle.order)
row_is t k q row same is =
    is
    ∙ (ap (λ (n : ℕ). map (shadow_value t (k / n) (k % n)) (range_with_len 0 t.quandle.order)) same
    ∙ ap (λ (j : ℕ). map (λ y. slice_index t.entries (j * t.quandle.order + y)) (range_with_len 0 t.quandle.order)) (div-add-mod' k t.quandle.order))

pub loop-k-preserved : goal.loop-k-preserved
loop-k-preserved c =
    let t : ShadowCochain = c.args.cocycle.now in
    let row = row_line (shadow_rows c.args.cocycle.now) c.loop-k.k c.as_slice.result.now (c.as_slice.ensures.value
    ∙ row_is c.args.cocycle.now c.loop-k.k c.order-order.result c.values_of-row.result.items c.loop-k.invariant.order c.values_of-row.ensures) in
    let step = c.in_ok-push_number_line.ensures.text ∙ ap (λ (s : List ℕ). c.loop-k.out.items ++ s) row in
    record {
      written = rows_more (shadow_rows c.args.cocycle.now) c.loop-k.k c.args.out.now.items c.loop-k.out.items c.push_number_line.new.out.items
          c.loop-k.invariant.written step;
      order = c.loop-k.invariant.order;
    }
