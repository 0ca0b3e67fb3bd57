use Rattle.std.proofs.Common.{◌==◌, ◌∙◌, List, ℕ, Bool, get_or, sym, arith}
use Rattle.quandle_core.specs.Quandle.{Table}
use Rattle.colour_rows.specs.Colouring.{AreColours}
use Rattle.colour_rows.specs.Equation.{Equation, walk_of}
use Rattle.grid_core.specs.declared.grid.TheConstants.{MAX_SIZE}
use Rattle.colour_list.proofs.Edits.{kept_all, kept_next, kept_here, left_next, read_again}
use Rattle.colour_list.proofs.level.keep_closed.Goals as goal
use Rattle.colour_list.proofs.level.keep_closed.Goals.{then-closes, else-closes, then-kept-i, else-kept-i}

abbrev test : Table → Equation → List ℕ → Bool
test t e f = walk_of t e f == get_or f e.right_end 0

pub closes-requires-clause-colours : goal.closes-requires-clause-colours
closes-requires-clause-colours c =
    kept_all (AreColours MAX_SIZE c.args.quandle.now.order)
    (test c.args.quandle.now c.args.row.now) c.args.level.now.items c.loop-i.level.items c.loop-i.kept c.loop-i.i c.index.result.now
    c.requires.colours c.loop-i.invariant (omega arith) c.index.ensures

pub loop-i-preserved : goal.loop-i-preserved
loop-i-preserved c =
    let p = test c.args.quandle.now c.args.row.now in
    elim c.if-closes.branch [
      | then-closes w ↦
          elim w.if-kept-i.branch [
            | then-kept-i w' ↦
                rw (w.level-is, w.kept-is, w'.level-is)
                (kept_next p c.args.level.now.items c.loop-i.level.items c.loop-i.kept c.loop-i.i c.index.result.now w'.index-then-kept-i.result.now
                c.loop-i.invariant (omega arith) c.index.ensures
                (sym c.closes.ensures ∙ w.if-closes.true)
                (read_again c.loop-i.level.items c.loop-i.i c.index.result.now w'.index-then-kept-i.result.now
                (omega (arith, c.loop-i.invariant.long)) c.index.ensures w'.index-then-kept-i.ensures))
            | else-kept-i w' ↦
                rw (w.level-is, w.kept-is, w'.level-is)
                (kept_here p c.args.level.now.items c.loop-i.level.items c.loop-i.kept c.loop-i.i c.index.result.now c.loop-i.invariant (omega arith)
                c.index.ensures
                (sym c.closes.ensures ∙ w.if-closes.true)
                (omega (arith, c.loop-i.invariant.behind)))
          ]
      | else-closes w ↦
          rw (w.level-is, w.kept-is)
          (left_next p c.args.level.now.items c.loop-i.level.items c.loop-i.kept c.loop-i.i c.index.result.now c.loop-i.invariant (omega arith) c.index.ensures
          (sym c.closes.ensures ∙ w.if-closes.false))
    ]
