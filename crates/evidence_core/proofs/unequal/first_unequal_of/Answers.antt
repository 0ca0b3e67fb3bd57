use Rattle.std.proofs.Common.{◌≡◌, ◌∙◌, ℕ, pos, ap₂, rules, to_z, of_z, w64, get_or, refl, drop, sym, subst, arith}
use Rattle.std.specs.Ordering.{int_eq}
use Rattle.evidence_core.specs.Unequal.{first_unequal}
use Rattle.evidence_core.proofs.FirstUnequal.{further, begun, same_here, differ_here, both_end, one_ends}
use Rattle.evidence_core.proofs.unequal.first_unequal_of.Goals as goal

pub loop-place-init : goal.loop-place-init
loop-place-init c = begun int_eq c.args.given.now c.args.own.now

pub returns-then-not-is_same_of : goal.returns-then-not-is_same_of
returns-then-not-is_same_of c =
    let one_is : to_z w64 (of_z w64 (get_or c.args.given.now c.loop-place.place (pos 0))) ≡ (get_or c.args.given.now c.loop-place.place (pos 0)) = search rules in
    let two_is : to_z w64 (of_z w64 (get_or c.args.own.now c.loop-place.place (pos 0))) ≡ (get_or c.args.own.now c.loop-place.place (pos 0)) = search rules in
    differ_here int_eq c.args.given.now c.args.own.now c.loop-place.place (pos 0) (get_or c.args.given.now c.loop-place.place (pos 0)) (get_or c.args.own.now c.loop-place.place (pos 0))
    (first_unequal int_eq c.args.given.now c.args.own.now) (omega arith) (omega arith) refl refl
    (sym (c.is_same_of.ensures ∙ ap₂ int_eq one_is two_is) ∙ c.if-not-is_same_of.true) c.loop-place.invariant

pub loop-place-preserved : goal.loop-place-preserved
loop-place-preserved c =
    let one_is : to_z w64 (of_z w64 (get_or c.args.given.now c.loop-place.place (pos 0))) ≡ (get_or c.args.given.now c.loop-place.place (pos 0)) = search rules in
    let two_is : to_z w64 (of_z w64 (get_or c.args.own.now c.loop-place.place (pos 0))) ≡ (get_or c.args.own.now c.loop-place.place (pos 0)) = search rules in
    same_here int_eq c.args.given.now c.args.own.now c.loop-place.place (pos 0) (get_or c.args.given.now c.loop-place.place (pos 0)) (get_or c.args.own.now c.loop-place.place (pos 0))
    (first_unequal int_eq c.args.given.now c.args.own.now) (omega arith) (omega arith) refl refl
    (sym (c.is_same_of.ensures ∙ ap₂ int_eq one_is two_is) ∙ c.if-not-is_same_of.false) c.loop-place.invariant

pub returns-then-given-own : goal.returns-then-given-own
returns-then-given-own c =
    both_end int_eq c.args.given.now c.args.own.now c.loop-place.place (first_unequal int_eq c.args.given.now c.args.own.now) (omega arith)
    c.if-given-own.true c.loop-place.invariant

pub returns-else-given-own : goal.returns-else-given-own
returns-else-given-own c =
    let at_end : c.loop-place.place ≡ c.min-most.result = omega arith in
    one_ends int_eq c.args.given.now c.args.own.now c.min-most.result (first_unequal int_eq c.args.given.now c.args.own.now) c.min-most.ensures
    c.if-given-own.false (subst (λ (n : ℕ). further n (first_unequal int_eq (drop n c.args.given.now) (drop n c.args.own.now))
    ≡ first_unequal int_eq c.args.given.now c.args.own.now) at_end c.loop-place.invariant)
