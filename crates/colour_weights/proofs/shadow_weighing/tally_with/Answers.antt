use Rattle.std.proofs.Common.{◌∙◌, ◌<◌, ◌+◌, ◌==◌, ℕ, List, length, map, take, ap, sym, subst, arith}
use Rattle.std.specs.Prelude.{count_by, slice_index}
use Rattle.std.specs.List.{range_with_len}
use Rattle.std.proofs.lemmas.List.{take_all}
use Rattle.std.proofs.lemmas.List.FromFn.{length-map-range_with_len}
use Rattle.arrayvec.specs.ArrayVec.{ArrayVec}
use Rattle.colour_rows.specs.Colouring.{IsColouring}
use Rattle.colour_weights.proofs.Countings.{length_take-le}
use Rattle.colour_weights.specs.ShadowWeight.{shadow_weight}
use Rattle.colour_weights.proofs.Tallies.{counted_before, counted_next, count_small, counts_begin, counts_end}
use Rattle.colour_weights.proofs.shadow_weighing.tally_with.Goals as goal

pub loop-colours-init : goal.loop-colours-init
loop-colours-init c =
    c.requires.before ∙ counts_begin c.args.cocycle.now c.args.grid.now c.args.list.now c.args.outer c.args.cocycle.now.modulus

pub shadow_weight-requires-clause-colouring : goal.shadow_weight-requires-clause-colouring
shadow_weight-requires-clause-colouring c =
    subst (λ (x : ArrayVec ℕ). IsColouring c.args.cocycle.now.quandle c.args.grid.now x.items) (sym c.colours-item.is)
    (c.requires.colourings c.loop-colours.colours-index c.colours-item.result c.loop-colours-test.true)

pub count_one-requires-clause-inside : goal.count_one-requires-clause-inside
count_one-requires-clause-inside c =
    let below = c.shadow_weight.ensures.below in
    let long = ap length c.loop-colours.invariant
    ∙ length-map-range_with_len (λ v. counted_before c.args.cocycle.now c.args.grid.now c.args.list.now c.args.outer v
    + count_by (λ (x : ArrayVec ℕ). shadow_weight c.args.cocycle.now c.args.grid.now x.items c.args.outer == v)
    (take c.loop-colours.colours-index c.args.list.now)) 0 c.args.cocycle.now.modulus in
    omega (arith, below, long)

pub count_one-requires-clause-room : goal.count_one-requires-clause-room
count_one-requires-clause-room c =
    let i : ℕ = c.loop-colours.colours-index in
    let at : i < length c.args.list.now = c.loop-colours-test.true in
    let few = c.requires.few in
    let is = ap (λ l. slice_index l c.shadow_weight.result) c.loop-colours.invariant in
    let small = count_small c.args.cocycle.now c.args.grid.now c.args.list.now (take i c.args.list.now) c.args.outer c.args.cocycle.now.modulus
    c.shadow_weight.result c.shadow_weight.ensures.below few in
    let most = c.order-order.ensures.few in
    let outer = c.requires.outer in
    omega (arith, is, small, few, at, most, outer, length_take-le i c.args.list.now)

pub loop-colours-preserved : goal.loop-colours-preserved
loop-colours-preserved c =
    c.count_one.ensures
    ∙ counted_next (λ (x : ArrayVec ℕ). shadow_weight c.args.cocycle.now c.args.grid.now x.items c.args.outer)
    (counted_before c.args.cocycle.now c.args.grid.now c.args.list.now c.args.outer) c.args.list.now c.loop-colours.colours-index c.colours-item.result
    c.args.cocycle.now.modulus c.shadow_weight.result c.loop-colours.counts
    c.loop-colours-test.true c.colours-item.is c.shadow_weight.ensures.weight c.shadow_weight.ensures.below c.loop-colours.invariant

pub returns : goal.returns
returns c =
    c.loop-colours.invariant
    ∙ (ap (λ (l : List (ArrayVec ℕ)). map (λ v. counted_before c.args.cocycle.now c.args.grid.now c.args.list.now c.args.outer v
    + count_by (λ (x : ArrayVec ℕ). shadow_weight c.args.cocycle.now c.args.grid.now x.items c.args.outer == v) l)
    (range_with_len 0 c.args.cocycle.now.modulus))
    (take_all c.loop-colours.colours-index c.args.list.now c.loop-colours-test.false)
    ∙ counts_end c.args.cocycle.now c.args.grid.now c.args.list.now c.args.outer c.args.cocycle.now.modulus)
