use Rattle.std.proofs.Common.{◌≡◌, ◌∙◌, ◌+◌, ◌-◌, ◌*◌, ◌%◌, ◌==◌, ℕ, true, sym, arith, below_more}
use Rattle.quandle_core.specs.Quandle.{over}
use Rattle.colour_rows.proofs.Ranges.{all_range, fails_range}
use Rattle.cocycle_core.proofs.dihedral.are_reflected.Goals as goal

pub loop-y-preserved : goal.loop-y-preserved
loop-y-preserved c =
    let q = c.args.quandle.now in
    below_more (λ (k : ℕ). (over q c.args.x k == (2 * k + (q.order - c.args.x)) % q.order) ≡ true) c.loop-y.y c.loop-y.invariant
    (sym c.is_reflected.ensures ∙ c.if-not-is_reflected.false)

pub returns-then-not-is_reflected : goal.returns-then-not-is_reflected
returns-then-not-is_reflected c =
    let q = c.args.quandle.now in
    sym (fails_range (λ (k : ℕ). over q c.args.x k == (2 * k + (q.order - c.args.x)) % q.order) q.order c.loop-y.y
    (omega (arith, c.order-order.ensures.order, c.loop-y-test.true)) (sym c.is_reflected.ensures ∙ c.if-not-is_reflected.true))

pub returns : goal.returns
returns c =
    let q = c.args.quandle.now in
    sym (all_range (λ (k : ℕ). over q c.args.x k == (2 * k + (q.order - c.args.x)) % q.order) q.order
    (λ k lt. c.loop-y.invariant k (omega (arith, c.order-order.ensures.order))))
