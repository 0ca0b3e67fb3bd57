use Rattle.std.proofs.Common.{◌≡◌, List, ℕ, length, ap, ◌∙◌, arith}
use Rattle.std.proofs.lemmas.List.FromFn.{length-map-range_with_len}
use Rattle.cocycle_core.specs.ShadowCocycle.{shadow_value}
use Rattle.quandle_core.proofs.Entries.{entries_more}
use Rattle.certificates.proofs.shadows.values_of.Goals as goal

pub push-requires : goal.push-requires
push-requires c =
    let len : length c.loop-y.row.items ≡ c.loop-y.y =
    ap (λ (xs : List ℕ). length xs) c.loop-y.invariant ∙ length-map-range_with_len (shadow_value c.args.cocycle.now c.args.w c.args.x) 0 c.loop-y.y in
    (omega arith, omega (arith, len, c.order-y-end.ensures.order, c.order-y-end.ensures.few))

pub loop-y-preserved : goal.loop-y-preserved
loop-y-preserved c =
    entries_more (shadow_value c.args.cocycle.now c.args.w c.args.x) c.loop-y.row.items c.push.new.self.items c.loop-y.y c.value.result c.loop-y.invariant
    c.push.ensures.items c.value.ensures.value
