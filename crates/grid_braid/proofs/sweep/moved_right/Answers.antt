use Rattle.std.proofs.Common.{ℕ, ◌<◌, ◌∙◌, ◌+◌, get_or, sym, subst, arith}
use Rattle.std.proofs.lemmas.List.Elements.{All-get_or}
use Rattle.quandle_core.specs.Quandle.{back}
use Rattle.grid_braid.specs.Strands.{is_strand}
use Rattle.grid_braid.proofs.Steps.{passed_in, passed_out}
use Rattle.grid_braid.proofs.sweep.moved_right.Goals as goal
use Rattle.grid_braid.proofs.sweep.moved_right.Goals.{then-is_strand, else-is_strand}

pub loop-column-preserved : goal.loop-column-preserved
loop-column-preserved c =
    let t = c.args.quandle.now in
    let p = is_strand c.args.grid.now c.args.row in
    let e = λ (k : ℕ). get_or c.args.colours.now k 0 in
    let from = c.ends-left.result.0 + 1 in
    let column = c.loop-column.column in
    elim c.if-is_strand.branch [
      | then-is_strand w ↦ (
        passed_in (back t) e p from column c.args.start c.loop-column.colour c.if-is_strand.colour (omega arith)
            (sym c.is_strand.ensures ∙ w.if-is_strand.true) c.loop-column.invariant.0 (w.colour-is ∙ w.back-colour.ensures),
        subst (λ (y : ℕ). y < t.order) (sym (w.colour-is ∙ w.back-colour.ensures))
            (c.order-order.ensures.quandle.back_within c.loop-column.colour (e column) c.loop-column.invariant.1
            (All-get_or (λ y. y < t.order) c.args.colours.now column 0 (omega (arith, c.requires.colours.0, c.ends-left.ensures.within)) c.requires.colours.1)),
      )
      | else-is_strand w ↦ (
        passed_out (back t) e p from column c.args.start c.loop-column.colour c.if-is_strand.colour (omega arith)
            (sym c.is_strand.ensures ∙ w.if-is_strand.false) c.loop-column.invariant.0 w.colour-is,
        subst (λ (y : ℕ). y < t.order) (sym w.colour-is) c.loop-column.invariant.1,
      )
    ]
