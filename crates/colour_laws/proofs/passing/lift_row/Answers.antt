use Rattle.std.proofs.Common.{◌≡◌, ◌<◌, ◌∙◌, ℕ, length, get_or, ap, sym, subst, arith}
use Rattle.std.proofs.lemmas.List.Elements.{All-get_or}
use Rattle.colour_laws.proofs.Edited.{none_passed, unpassed, one_passed}
use Rattle.colour_laws.proofs.Moments.{between_is}
use Rattle.colour_laws.proofs.passing.lift_row.Goals as goal

pub loop-column-init : goal.loop-column-init
loop-column-init c =
    none_passed c.args.quandle.now c.is_up_at_bottom-up.result (get_or c.args.colours.now c.ends-left.result.0 0) c.ends-left.result.0 c.args.colours.now

pub passed_leftward-requires : goal.passed_leftward-requires
passed_leftward-requires c =
    let t = c.args.quandle.now in
    let ys = c.args.colours.now in
    let at : c.loop-column.column < length c.args.colours.now = omega (arith, c.requires.colours.0, c.ends-left.ensures.within, c.loop-column-test.true) in
    let from : c.ends-left.result.0 < length c.args.colours.now = omega (arith, c.requires.colours.0, c.ends-left.ensures.within) in
    let same : get_or c.loop-column.colours c.loop-column.column 0 ≡ get_or c.args.colours.now c.loop-column.column 0 =
    ap (λ l. get_or l c.loop-column.column 0) c.loop-column.invariant
    ∙ unpassed t c.is_up_at_bottom-up.result (get_or ys c.ends-left.result.0 0) c.ends-left.result.0 c.loop-column.column c.loop-column.column ys
    (omega arith) at in (
      subst (λ (z : ℕ). z < t.order) (sym same) (All-get_or (λ z. z < t.order) ys c.loop-column.column 0 at c.requires.colours.1),
      All-get_or (λ z. z < t.order) ys c.ends-left.result.0 0 from c.requires.colours.1,
    )

pub loop-column-preserved : goal.loop-column-preserved
loop-column-preserved c =
    one_passed c.args.quandle.now c.is_up_at_bottom-up.result
    (get_or c.args.colours.now c.ends-left.result.0 0) c.ends-left.result.0 c.loop-column.column c.args.colours.now c.loop-column.colours
    c.passed_leftward.result
    (omega (arith, c.loop-column.auto.column))
    (omega (arith, c.requires.colours.0, c.ends-left.ensures.within, c.loop-column-test.true)) c.loop-column.invariant c.passed_leftward.ensures.is

pub returns : goal.returns
returns c =
    let end : c.loop-column.column ≡ c.ends-left.result.1 = omega (arith, c.loop-column-test.false, c.loop-column.auto, c.ends-left.ensures.within) in
    c.loop-column.invariant
    ∙ between_is c.args.quandle.now c.args.grid.now c.size-size.ensures.grid c.args.row c.requires.row c.args.colours.now c.requires.colours.0
    c.ends-left.result.0 c.loop-column.column c.is_up_at_bottom-up.result
    c.ends-left.ensures.left (end ∙ c.ends-left.ensures.right) c.is_up_at_bottom-up.ensures
