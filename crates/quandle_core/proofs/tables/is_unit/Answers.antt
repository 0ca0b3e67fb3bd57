use Rattle.std.proofs.Common.{◌≡◌, ◌==◌, ◌*◌, ◌%◌, false, sym, arith, eq-eqb, below_more}
use Rattle.std.proofs.lemmas.Bool.{ne_eqb}
use Rattle.quandle_core.proofs.Linear.{any_range, none_range}
use Rattle.quandle_core.proofs.tables.is_unit.Goals as goal

pub returns-then-t-u : goal.returns-then-t-u
returns-then-t-u c =
    sym (any_range (λ u. (c.args.t * u) % c.args.n == 1 % c.args.n) c.args.n c.loop-u.u (omega arith)
    (eq-eqb (c.args.t * c.loop-u.u % c.args.n) (1 % c.args.n) c.if-t-u.true))

pub loop-u-preserved : goal.loop-u-preserved
loop-u-preserved c =
    below_more (λ u. ((c.args.t * u) % c.args.n == 1 % c.args.n) ≡ false) c.loop-u.u c.loop-u.invariant
    (ne_eqb (c.args.t * c.loop-u.u % c.args.n) (1 % c.args.n) c.if-t-u.false)

pub returns : goal.returns
returns c = sym (none_range (λ u. (c.args.t * u) % c.args.n == 1 % c.args.n) c.args.n (λ k lt. c.loop-u.invariant k (omega arith)))
