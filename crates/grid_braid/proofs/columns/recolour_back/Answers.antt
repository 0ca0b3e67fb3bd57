use Rattle.std.proofs.Common.{ℕ, ◌∙◌, ◌-◌, not, ap, sym, subst, arith}
use Rattle.grid_core.specs.Diagram.{size}
use Rattle.grid_core.specs.Parts.{is_up}
use Rattle.colour_rows.specs.Colouring.{AreColours}
use Rattle.grid_braid.specs.Columns.{passed_back}
use Rattle.grid_braid.proofs.Steps.{listed_in, listed_out}
use Rattle.grid_braid.proofs.Unwound.{passes_undo}
use Rattle.grid_braid.proofs.columns.recolour_back.Goals as goal
use Rattle.grid_braid.proofs.columns.recolour_back.Goals.{then-not-is_up, else-not-is_up}

pub loop-done-preserved : goal.loop-done-preserved
loop-done-preserved c =
    let t = c.args.quandle.now in
    let d = c.args.grid.now in
    let p = λ (k : ℕ). not (is_up d k) in
    let done = c.loop-done.done in
    let column = c.size-size.result - 1 - done in
    elim c.if-not-is_up.branch [
      | then-not-is_up w ↦ (
        listed_in (passed_back t) p (size d) done column c.args.colours.now c.loop-done.colours c.if-not-is_up.colours (omega arith) (omega arith)
            (ap not (sym c.is_up.ensures ∙ w.if-not-is_up.true)) c.loop-done.invariant.0 (w.colours-is ∙ w.pass_back.ensures),
        subst (AreColours (size d) t.order) (sym (w.colours-is ∙ w.pass_back.ensures))
            ((passes_undo t c.order-order.ensures.quandle (size d) column (omega arith)).fro c.loop-done.colours c.loop-done.invariant.1),
      )
      | else-not-is_up w ↦ (
        listed_out (passed_back t) p (size d) done column c.args.colours.now c.loop-done.colours c.if-not-is_up.colours (omega arith) (omega arith)
            (ap not (sym c.is_up.ensures ∙ w.if-not-is_up.false)) c.loop-done.invariant.0 w.colours-is,
        subst (AreColours (size d) t.order) (sym w.colours-is) c.loop-done.invariant.1,
      )
    ]
