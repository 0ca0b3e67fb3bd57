use Rattle.std.proofs.Common.{◌≡◌, ◌∙◌, ◌≤◌, ◌-◌, ◌%◌, ◌==◌, ℕ, true, not, sym, ap, arith, below_more}
use Rattle.cocycle_core.proofs.Reflections.{all_from, fails_from}
use Rattle.cocycle_core.proofs.dihedral.has_no_divisor.Goals as goal

pub loop-d-preserved : goal.loop-d-preserved
loop-d-preserved c =
    below_more (λ (k : ℕ). 2 ≤ k → not (c.args.n % k == 0) ≡ true) c.loop-d.d c.loop-d.invariant
    (λ le. ap not (sym c.divides.ensures ∙ c.if-divides.false))

pub returns-then-divides : goal.returns-then-divides
returns-then-divides c =
    sym (fails_from (λ (k : ℕ). not (c.args.n % k == 0)) 2 (c.args.n - 2) c.loop-d.d (omega arith) (omega arith)
    (ap not (sym c.divides.ensures ∙ c.if-divides.true)))

pub returns : goal.returns
returns c = sym (all_from (λ (k : ℕ). not (c.args.n % k == 0)) 2 (c.args.n - 2) (λ k le lt. c.loop-d.invariant k (omega arith) le))
