use Rattle.std.proofs.Common.{◌≡◌, ◌<◌, ℕ, sym, subst}
use Rattle.quandle_core.specs.Quandle.{Table, IsQuandle, back}
use Rattle.quandle_core.specs.Columns.{cell}
use Rattle.quandle_core.proofs.Columns.{laid_out_more, laid_out_column, laid_out_table, laid_out_back}
use Rattle.quandle_core.proofs.quandle.of_table.Goals as goal

pub loop-x-preserved : goal.loop-x-preserved
loop-x-preserved c =
    let t : Table = record { order = c.args.order; entries = c.args.table.now } in
    laid_out_more t c.requires.laws c.requires.few c.loop-x.forward c.loop-x.backward c.loop-y.y c.loop-x.x c.entry-z.result
    c.loop-y-test.true c.loop-x-test.true c.entry-z.ensures
    c.loop-x.invariant

pub loop-y-preserved : goal.loop-y-preserved
loop-y-preserved c =
    let t : Table = record { order = c.args.order; entries = c.args.table.now } in
    laid_out_column t c.loop-x.forward c.loop-x.backward c.loop-y.y c.loop-x.x c.loop-x-test.false c.loop-x.invariant

pub invariant_of-result : goal.invariant_of-result
invariant_of-result c =
    let t : Table = record { order = c.args.order; entries = c.args.table.now } in
    let same = laid_out_table t c.requires.laws c.loop-y.forward c.loop-y.backward c.loop-y.y c.loop-y-test.false c.loop-y.invariant in (
      subst IsQuandle (sym same) c.requires.laws,
      c.requires.few,
      subst (λ (u : Table). (x y : ℕ) → x < c.args.order → y < c.args.order → cell c.loop-y.backward x y ≡ back u x y) (sym same)
          (laid_out_back t c.requires.laws c.loop-y.forward c.loop-y.backward c.loop-y.y c.loop-y-test.false c.loop-y.invariant),
    )

pub returns : goal.returns
returns c =
    let t : Table = record { order = c.args.order; entries = c.args.table.now } in
    laid_out_table t c.requires.laws c.loop-y.forward c.loop-y.backward c.loop-y.y c.loop-y-test.false c.loop-y.invariant
