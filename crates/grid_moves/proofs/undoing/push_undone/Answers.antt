use Rattle.std.proofs.Common.{◌≡◌, ◌<◌, refl, ◌∙◌, ap, sym, arith, length, ◌++◌, ◌∷◌, [], append_assoc, List, reverse, rules}
use Rattle.std.proofs.lemmas.List.{append-nil, reverse-append, length-append, length-reverse}
use Rattle.grid_moves.specs.declared.step.Move.{Move}
use Rattle.grid_moves.proofs.TurnedBack.{undone_by}
use Rattle.grid_moves.proofs.PutParts.{on_err, part_none, part_left}
use Rattle.grid_moves.proofs.undoing.push_undone.Goals as goal

moved : (list after all left whole : List Move) (step : Move) → all ≡ left ++ step ∷ [] → after ≡ list ++ step ∷ [] → list ++ reverse all ≡ whole
    → after ++ reverse left ≡ whole
moved list after all left whole step cut more known =
    ap (λ (ms : List Move). ms ++ reverse left) more
    ∙ append_assoc list (step ∷ []) (reverse left)
    ∙ ap (λ (ms : List Move). list ++ ms) (sym (ap reverse cut ∙ reverse-append left (step ∷ [])))
    ∙ known

pub loop-step-preserved : goal.loop-step-preserved
loop-step-preserved c =
    let more = c.in_ok-push.ensures.items in (
      moved c.loop-step.list.items c.push.new.self.items c.loop-step.inverses.items c.pop.new.self.items _ c.in-Some.step c.in-Some.ensures.items more c.loop-step.invariant.0,
      omega (arith, c.loop-step.invariant.1, ap length more, length-append c.loop-step.list.items (c.in-Some.step ∷ [])),
    )

pub returns-clause-list : goal.returns-clause-list
returns-clause-list c = λ e joined.
    let none : c.loop-step.inverses.items ≡ [] = search rules in (
      reverse c.in_ok-inverses.inverses.items,
      (
        c.in_ok-inverses.ensures.undone e joined,
        sym (append-nil c.loop-step.list.items) ∙ ap (λ (ms : List Move). c.loop-step.list.items ++ reverse ms) (sym none) ∙ c.loop-step.invariant.0,
      ),
    )

pub returns-in_err-inverses-clause-part : goal.returns-in_err-inverses-clause-part
returns-in_err-inverses-clause-part c =
    on_err c.from_residual.result _ (λ e joined.
    let (back, (undone, long)) = undone_by c.args.moves.now c.args.grid.now e joined in
    (back, (undone, part_none _ _ back refl (omega (arith, long, c.in_err-inverses.ensures.some)))))

pub returns-in_err-push-clause-part : goal.returns-in_err-push-clause-part
returns-in_err-push-clause-part c =
    on_err c.from_residual-in_err-push.result _ (λ e joined.
    let same : c.push.new.self.items ≡ c.loop-step.list.items = c.in_err-push.ensures.items in
    let some : 0 < length (reverse c.loop-step.inverses.items) =
    omega (arith, ap length c.in-Some.ensures.items, length-append c.pop.new.self.items (c.in-Some.step ∷ []), length-reverse c.loop-step.inverses.items) in (
      reverse c.in_ok-inverses.inverses.items,
      (
        c.in_ok-inverses.ensures.undone e joined,
        part_left _ _ (reverse c.loop-step.inverses.items) _
            (ap (λ (ms : List Move). ms ++ reverse c.loop-step.inverses.items) same ∙ c.loop-step.invariant.0)
            (omega (arith, ap length same, c.loop-step.invariant.1)) some,
      ),
    ))
