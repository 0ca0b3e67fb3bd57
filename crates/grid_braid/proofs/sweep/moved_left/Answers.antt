use Rattle.std.proofs.Common.{ℕ, ◌<◌, ◌∙◌, ◌-◌, get_or, sym, subst, refl, arith}
use Rattle.std.proofs.lemmas.List.Elements.{All-get_or}
use Rattle.quandle_core.specs.Quandle.{over}
use Rattle.grid_braid.specs.Strands.{is_strand}
use Rattle.grid_braid.proofs.Steps.{returned_in, returned_out}
use Rattle.grid_braid.proofs.sweep.moved_left.Goals as goal
use Rattle.grid_braid.proofs.sweep.moved_left.Goals.{then-is_strand, else-is_strand}

pub loop-done-preserved : goal.loop-done-preserved
loop-done-preserved c =
    let t = c.args.quandle.now in
    let p = is_strand c.args.grid.now c.args.row in
    let e = λ (k : ℕ). get_or c.args.colours.now k 0 in
    let right = c.ends-left.result.1 in
    let done = c.loop-done.done in
    let column = right - 1 - done in
    elim c.if-is_strand.branch [
      | then-is_strand w ↦ (
        returned_in (over t) e p right done column c.args.start c.loop-done.colour c.if-is_strand.colour (omega arith) refl
            (sym c.is_strand.ensures ∙ w.if-is_strand.true) c.loop-done.invariant.0 (w.colour-is ∙ w.over-colour.ensures),
        subst (λ (y : ℕ). y < t.order) (sym (w.colour-is ∙ w.over-colour.ensures))
            (c.order-order.ensures.quandle.within c.loop-done.colour (e column) c.loop-done.invariant.1
            (All-get_or (λ y. y < t.order) c.args.colours.now column 0 (omega (arith, c.requires.colours.0, c.ends-left.ensures.within)) c.requires.colours.1)),
      )
      | else-is_strand w ↦ (
        returned_out (over t) e p right done column c.args.start c.loop-done.colour c.if-is_strand.colour (omega arith) refl
            (sym c.is_strand.ensures ∙ w.if-is_strand.false) c.loop-done.invariant.0 w.colour-is,
        subst (λ (y : ℕ). y < t.order) (sym w.colour-is) c.loop-done.invariant.1,
      )
    ]
