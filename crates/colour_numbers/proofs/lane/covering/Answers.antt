use Rattle.std.proofs.Common.{◌++◌, ◌∙◌, [], ◌∷◌, Bool, append-nil, cond, length, sym, ap, arith, List}
use Rattle.grid_core.specs.Parts.{is_up}
use Rattle.colour_rows.specs.declared.equation.Pass.{Pass}
use Rattle.colour_numbers.specs.Lanes.{covering}
use Rattle.colour_numbers.proofs.Lanes.{covering_more, covering_none}
use Rattle.colour_numbers.proofs.lane.covering.Goals as goal
use Rattle.colour_numbers.proofs.lane.covering.Goals.{then-covers, else-covers}

pub loop-column-init : goal.loop-column-init
loop-column-init c = (
  c.new-passes.ensures ∙ covering_none c.args.grid.now c.args.row c.args.from,
  omega (arith, ap (λ (ps : List Pass). length ps) c.new-passes.ensures),
  omega arith,
)

pub loop-column-preserved : goal.loop-column-preserved
loop-column-preserved c =
    let d = c.args.grid.now in
    let column = c.loop-column.column in
    let before = covering d c.args.row c.args.from column in
    let more = covering_more d c.args.row c.args.from column c.loop-column.invariant.2 in
    elim c.if-covers.branch [
      | then-covers w ↦
          let all = more ∙ ap (λ b. before ++ cond b (record { column = column; up = is_up d column } ∷ []) []) (sym c.covers.ensures ∙ w.if-covers.true) in (
            rw w.passes-is
                (w.push.ensures.items
                ∙ (ap (λ (ps : List Pass). ps ++ record { column = column; up = w.is_up.result } ∷ []) c.loop-column.invariant.0
                ∙ (ap (λ (u : Bool). before ++ record { column = column; up = u } ∷ []) w.is_up.ensures ∙ sym all))),
            rw w.passes-is (omega (arith, w.push.ensures.len, c.loop-column.invariant.1)),
            omega (arith, c.loop-column.invariant.2),
          )
      | else-covers w ↦
          let all = more ∙ ap (λ b. before ++ cond b (record { column = column; up = is_up d column } ∷ []) []) (sym c.covers.ensures ∙ w.if-covers.false) in (
            rw w.passes-is (c.loop-column.invariant.0 ∙ sym (all ∙ append-nil before)),
            rw w.passes-is (omega (arith, c.loop-column.invariant.1)),
            omega (arith, c.loop-column.invariant.2),
          )
    ]
