use Rattle.std.proofs.Common.{◌∙◌, ℕ, List, length, sym, ap, subst, arith}
use Rattle.code_grids.specs.Renaming.{IsUndone}
use Rattle.code_grids.proofs.Undone.{refilled, both_ways}
use Rattle.code_grids.proofs.same_code.inverse_of.Goals as goal

pub returns-then-not-undo_each_other-clause-none : goal.returns-then-not-undo_each_other-clause-none
returns-then-not-undo_each_other-clause-none c = λ wanted i.
    let there = c.args.there.now in
    let n = length there in
    let written = c.put_places.new.back in
    let long = c.put_places.ensures.long in
    let items = ap length c.as_mut_slice.ensures.value in
    let len = c.as_mut_slice.ensures.len in
    let kept = c.put_places.auto.back in
    let is = c.as_slice.ensures.value ∙ refilled c.in_ok-back.back.len c.in_ok-back.back.items written (omega arith) (omega arith) in
    let undone = c.put_places.ensures.undone wanted i in
    let no = c.if-not-undo_each_other.true in
    let yes = c.undo_each_other.ensures.1
    (subst (λ (xs : List ℕ). IsUndone there xs × IsUndone xs there) (sym is) (undone, both_ways n there wanted written i long undone)) in
    cc
