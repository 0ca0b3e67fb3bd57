use Rattle.std.proofs.Common.{◌∙◌, sym, ap, length, List, ℕ, arith}
use Rattle.std.proofs.lemmas.List.{length-map}
use Rattle.arrayvec.specs.ArrayVec.{ArrayVec}
use Rattle.colour_laws.proofs.Counted.{equivalent_lengths}
use Rattle.pair_verdict.proofs.separating.separation.Goals as goal

pub returns-clause-claim : goal.returns-clause-claim
returns-clause-claim c = λ equivalent.
    let same = equivalent_lengths c.quandle-quandle.result.now c.order-order.ensures.quandle c.args.first.now c.args.second.now equivalent in
    let one = sym (length-map c.in_ok-one.one.items (λ (x : ArrayVec ℕ). x.items)) ∙ ap (λ (z : List (List ℕ)). length z) c.in_ok-one.ensures.complete in
    let two = sym (length-map c.in_ok-two.two.items (λ (x : ArrayVec ℕ). x.items)) ∙ ap (λ (z : List (List ℕ)). length z) c.in_ok-two.ensures.complete in
    c.if-len.false (omega (arith, same, one, two, c.len.ensures, c.len-2.ensures))
