use Rattle.std.proofs.Common.{◌++◌, ◌∙◌, [], ◌∷◌, Bool, append-nil, cond, sym, ap, arith, List}
use Rattle.grid_core.specs.Parts.{is_up}
use Rattle.colour_rows.specs.declared.equation.Pass.{Pass}
use Rattle.colour_rows.specs.Equation.{passes}
use Rattle.colour_rows.specs.Spans.{ColumnSpans}
use Rattle.lane_spans.specs.Columns as lanes
use Rattle.colour_rows.proofs.Equations.{passes_more}
use Rattle.colour_rows.proofs.ListedSpans.{columns_cover}
use Rattle.colour_rows.proofs.equation.passed.Goals as goal
use Rattle.colour_rows.proofs.equation.passed.Goals.{then-has_bit, else-has_bit}

pub loop-column-preserved : goal.loop-column-preserved
loop-column-preserved c =
    let d = c.args.grid.now in
    let column = c.loop-column.column in
    let before = passes d c.args.row c.args.left column in
    let more = passes_more d c.args.row c.args.left column (omega arith) in
    let covered =
    c.has_bit.ensures
    ∙ (c.covering-covering.ensures column
    ∙ (ap (λ (s : ColumnSpans). lanes.lane_covers s.lows s.highs c.args.row column) c.requires.spans ∙ columns_cover d column c.args.row (omega arith))) in
    elim c.if-has_bit.branch [
      | then-has_bit w ↦
          let all = more ∙ ap (λ b. before ++ cond b (record { column = column; up = is_up d column } ∷ []) []) (sym covered ∙ w.if-has_bit.true) in (
            rw w.passed-is
                (w.push.ensures.items
                ∙ (ap (λ (ps : List Pass). ps ++ record { column = column; up = w.is_up.result } ∷ []) c.loop-column.invariant.0
                ∙ (ap (λ (u : Bool). before ++ record { column = column; up = u } ∷ []) w.is_up.ensures ∙ sym all))),
            rw w.passed-is (omega (arith, w.push.ensures.len)),
          )
      | else-has_bit w ↦
          let all = more ∙ ap (λ b. before ++ cond b (record { column = column; up = is_up d column } ∷ []) []) (sym covered ∙ w.if-has_bit.false) in (
            rw w.passed-is (c.loop-column.invariant.0 ∙ sym (all ∙ append-nil before)),
            rw w.passed-is (omega arith),
          )
    ]
