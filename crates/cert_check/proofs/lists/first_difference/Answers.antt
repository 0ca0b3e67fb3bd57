use Rattle.std.proofs.Common.{◌≡◌, ◌∙◌, ℕ, Bool, true, false, not, List, refl, sym, ap₂, subst, arith, take}
use Rattle.colour_list.specs.Listing.{is_same, lists_of}
use Rattle.cert_check.proofs.FirstDifference.{same_more, differs_here, same_to_the_end, differ_at_the_end}
use Rattle.cert_check.proofs.lists.first_difference.Goals as goal

-- what the answer r of `!=` on two lists of colours says
test_is : (r s t : Bool) → r ≡ not t → r ≡ not s → t ≡ s
test_is r true true is was = refl
test_is r true false is was = absurd cc
test_is r false true is was = absurd cc
test_is r false false is was = refl

compared : (r s : Bool) (a b p q : List ℕ) → p ≡ a → q ≡ b → r ≡ not (is_same p q) → r ≡ not s → is_same a b ≡ s
compared r s a b p q p_is q_is is was = sym (ap₂ is_same p_is q_is) ∙ test_is r s (is_same p q) is was

pub returns-then-ne : goal.returns-then-ne
returns-then-ne c =
    let x = c.index-given-place.result in
    let y = c.index-complete-place.result in
    sym (differs_here c.args.given.now c.args.complete.now c.loop-place.place x y (omega arith) (omega arith) c.index-given-place.is c.index-complete-place.is
    (compared c.ne.result false x.items y.items c.as_slice.result.now c.as_slice-in-loop-place.result.now c.as_slice.ensures.value c.as_slice-in-loop-place.ensures.value c.ne.ensures c.if-ne.true)
    c.loop-place.invariant)

pub loop-place-preserved : goal.loop-place-preserved
loop-place-preserved c =
    let x = c.index-given-place.result in
    let y = c.index-complete-place.result in
    same_more c.args.given.now c.args.complete.now c.loop-place.place x y (omega arith) (omega arith) c.index-given-place.is c.index-complete-place.is
    (compared c.ne.result true x.items y.items c.as_slice.result.now c.as_slice-in-loop-place.result.now c.as_slice.ensures.value c.as_slice-in-loop-place.ensures.value c.ne.ensures c.if-ne.false)
    c.loop-place.invariant

pub returns-then-given-complete : goal.returns-then-given-complete
returns-then-given-complete c =
    sym (same_to_the_end c.args.given.now c.args.complete.now c.loop-place.place (omega arith) c.if-given-complete.true c.loop-place.invariant)

pub returns-else-given-complete : goal.returns-else-given-complete
returns-else-given-complete c =
    let at_end : c.loop-place.place ≡ c.min-most.result = omega arith in
    sym (differ_at_the_end c.args.given.now c.args.complete.now c.min-most.result c.min-most.ensures c.if-given-complete.false (subst (λ (n : ℕ). take n (lists_of c.args.given.now) ≡ take n (lists_of c.args.complete.now)) at_end c.loop-place.invariant))
