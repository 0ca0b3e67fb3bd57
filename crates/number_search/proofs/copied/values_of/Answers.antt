use Rattle.std.proofs.Common.{◌≡◌, ◌∙◌, ◌*◌, ℕ, map, ap, arith}
use Rattle.std.specs.Prelude.{slice_index}
use Rattle.std.specs.List.{range_with_len}
use Rattle.quandle_core.specs.Quandle.{Table}
use Rattle.quandle_core.proofs.Entries.{entries_more}
use Rattle.number_search.proofs.CopiedValues.{all_values}
use Rattle.number_search.proofs.copied.values_of.Goals as goal

pub loop-place-preserved : goal.loop-place-preserved
loop-place-preserved c = (
  entries_more (λ k. slice_index c.args.cocycle.now.entries k) c.loop-place.table.items c.push.new.self.items c.loop-place.place _
      c.loop-place.invariant.0 c.in_ok-push.ensures.items c.value_at.ensures,
  c.loop-place.invariant.1,
)

pub returns : goal.returns
returns c =
    let end : c.loop-place.place ≡ c.order-order.result * c.order-order.result * c.order-order.result =
    omega (arith, c.loop-place-test.false, c.loop-place.auto.place-end) in
    c.loop-place.invariant.0
    ∙ (ap (λ (n : ℕ). map (λ k. slice_index c.args.cocycle.now.entries k) (range_with_len 0 n)) end
    ∙ all_values c.args.cocycle.now c.order-order.result c.modulus-modulus.ensures.cocycle
    (c.order-order.ensures.order ∙ ap (λ (t : Table). t.order) c.quandle.ensures))
