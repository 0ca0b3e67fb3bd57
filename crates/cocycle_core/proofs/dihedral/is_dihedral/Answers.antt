use Rattle.std.proofs.Common.{◌≡◌, ◌∙◌, ◌+◌, ◌-◌, ◌*◌, ◌%◌, ◌==◌, ℕ, true, sym, arith, below_more}
use Rattle.std.specs.List.{list_all, range_with_len}
use Rattle.quandle_core.specs.Quandle.{over}
use Rattle.colour_rows.proofs.Ranges.{all_range, fails_range}
use Rattle.cocycle_core.proofs.dihedral.is_dihedral.Goals as goal

pub loop-x-preserved : goal.loop-x-preserved
loop-x-preserved c =
    let q = c.args.quandle.now in
    below_more (λ (k : ℕ). list_all (λ y. over q k y == (2 * y + (q.order - k)) % q.order) (range_with_len 0 q.order) ≡ true) c.loop-x.x c.loop-x.invariant
    (sym c.are_reflected.ensures ∙ c.if-not-are_reflected.false)

pub returns-then-not-are_reflected : goal.returns-then-not-are_reflected
returns-then-not-are_reflected c =
    let q = c.args.quandle.now in
    sym (fails_range (λ (k : ℕ). list_all (λ y. over q k y == (2 * y + (q.order - k)) % q.order) (range_with_len 0 q.order)) q.order c.loop-x.x
    (omega (arith, c.order-order.ensures.order, c.loop-x-test.true)) (sym c.are_reflected.ensures ∙ c.if-not-are_reflected.true))

pub returns : goal.returns
returns c =
    let q = c.args.quandle.now in
    sym (all_range (λ (k : ℕ). list_all (λ y. over q k y == (2 * y + (q.order - k)) % q.order) (range_with_len 0 q.order)) q.order
    (λ k lt. c.loop-x.invariant k (omega (arith, c.order-order.ensures.order))))
