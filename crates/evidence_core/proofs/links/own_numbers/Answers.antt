use Rattle.std.proofs.Common.{◌∙◌, ◌++◌, ◌∷◌, [], List, ℤ, pos, take, get_or, ap, sym, rules}
use Rattle.std.proofs.lemmas.List.{take_more, take_all}
use Rattle.std.proofs.lemmas.Int.{to_z-of_z}
use mir.Val.{SFits}
use mir.Syntax.{w32, w64}
use Rattle.evidence_core.proofs.links.own_numbers.Goals as goal

pub loop-number-preserved : goal.loop-number-preserved
loop-number-preserved c =
    let i = c.loop-number.number-index in
    let xs = c.as_slice-number-items.result.now in
    let next = take_more xs i (pos 0) c.loop-number-test.true in
    let fits : SFits w32 (get_or xs i (pos 0)) = search rules in
    let wide : SFits w64 c.from.result = search rules in
    let pushed = simp to_z-of_z at c.in_ok-push.ensures.items in
    let number = simp to_z-of_z at c.from.ensures in
    pushed
    ∙ (ap (λ (l : List ℤ). l ++ c.from.result ∷ []) c.loop-number.invariant ∙ (ap (λ (x : ℤ). take i xs ++ x ∷ []) number ∙ sym next))

pub returns : goal.returns
returns c =
    let whole = take_all c.loop-number.number-index c.as_slice-number-items.result.now c.loop-number-test.false in
    cc (c.in_ok-list.ensures)
