use Rattle.std.proofs.Common.{◌≡◌, ◌∙◌, ℕ, map, ap, arith}
use Rattle.std.specs.List.{range_with_len}
use Rattle.quandle_core.specs.Quandle.{Table}
use Rattle.colour_weights.proofs.Tallies.{counted_before, counts_are}
use Rattle.colour_weights.proofs.shadow_weighing.tally.Goals as goal

pub returns : goal.returns
returns c =
    let order : c.order-outer-end.result ≡ c.args.cocycle.now.quandle.order =
    c.order-outer-end.ensures.order ∙ ap (λ (t : Table). t.order) c.quandle.ensures in
    let all : c.loop-outer.outer ≡ c.args.cocycle.now.quandle.order = omega (arith, order, c.loop-outer-test.false, c.loop-outer.auto.outer-end) in
    c.loop-outer.invariant
    ∙ (ap (λ (n : ℕ). map (counted_before c.args.cocycle.now c.args.grid.now c.args.list.now n) (range_with_len 0 c.args.cocycle.now.modulus)) all
    ∙ counts_are c.args.cocycle.now c.args.grid.now c.args.list.now c.requires.complete)
