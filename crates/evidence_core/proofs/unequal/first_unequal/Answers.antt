use Rattle.std.proofs.Common.{◌≡◌, ◌∙◌, ℕ, get_or, refl, drop, sym, subst, arith}
use Rattle.std.specs.Prelude.{nat_eq}
use Rattle.evidence_core.specs.Unequal.{first_unequal}
use Rattle.evidence_core.proofs.FirstUnequal.{further, begun, same_here, differ_here, both_end, one_ends}
use Rattle.evidence_core.proofs.unequal.first_unequal.Goals as goal

pub loop-place-init : goal.loop-place-init
loop-place-init c = begun nat_eq c.args.given.now c.args.own.now

pub returns-then-not-is_same : goal.returns-then-not-is_same
returns-then-not-is_same c =
    differ_here nat_eq c.args.given.now c.args.own.now c.loop-place.place 0 (get_or c.args.given.now c.loop-place.place 0) (get_or c.args.own.now c.loop-place.place 0)
    (first_unequal nat_eq c.args.given.now c.args.own.now) (omega arith) (omega arith) refl refl
    (sym c.is_same.ensures ∙ c.if-not-is_same.true) c.loop-place.invariant

pub loop-place-preserved : goal.loop-place-preserved
loop-place-preserved c =
    same_here nat_eq c.args.given.now c.args.own.now c.loop-place.place 0 (get_or c.args.given.now c.loop-place.place 0) (get_or c.args.own.now c.loop-place.place 0)
    (first_unequal nat_eq c.args.given.now c.args.own.now) (omega arith) (omega arith) refl refl
    (sym c.is_same.ensures ∙ c.if-not-is_same.false) c.loop-place.invariant

pub returns-then-given-own : goal.returns-then-given-own
returns-then-given-own c =
    both_end nat_eq c.args.given.now c.args.own.now c.loop-place.place (first_unequal nat_eq c.args.given.now c.args.own.now) (omega arith)
    c.if-given-own.true c.loop-place.invariant

pub returns-else-given-own : goal.returns-else-given-own
returns-else-given-own c =
    let at_end : c.loop-place.place ≡ c.min-most.result = omega arith in
    one_ends nat_eq c.args.given.now c.args.own.now c.min-most.result (first_unequal nat_eq c.args.given.now c.args.own.now) c.min-most.ensures
    c.if-given-own.false (subst (λ (n : ℕ). further n (first_unequal nat_eq (drop n c.args.given.now) (drop n c.args.own.now))
    ≡ first_unequal nat_eq c.args.given.now c.args.own.now) at_end c.loop-place.invariant)
