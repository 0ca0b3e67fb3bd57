use Rattle.std.proofs.Common.{◌∙◌, arith, sym, ap}
use Rattle.grid_canon.specs.Digits.{short_number}
use Rattle.grid_canon.proofs.ShortGrids.{short_from}
use Rattle.grid_canon.proofs.short_grid.ShortGrid.of.Goals as goal

pub invariant_of-result : goal.invariant_of-result
invariant_of-result c =
    let made =
    short_from c.args.grid.now c.from.result c.number_of.result c.number_of-2.result c.size.ensures.grid (sym (c.from.ensures ∙ c.size.ensures.size))
    (omega (arith, c.requires, c.from.ensures, c.size.ensures.size))
    (c.number_of.ensures ∙ ap short_number c.rows.ensures.rows) (c.number_of-2.ensures ∙ ap short_number c.rows-2.ensures.rows) in
    made.1

pub returns : goal.returns
returns c =
    let made =
    short_from c.args.grid.now c.from.result c.number_of.result c.number_of-2.result c.size.ensures.grid (sym (c.from.ensures ∙ c.size.ensures.size))
    (omega (arith, c.requires, c.from.ensures, c.size.ensures.size))
    (c.number_of.ensures ∙ ap short_number c.rows.ensures.rows) (c.number_of-2.ensures ∙ ap short_number c.rows-2.ensures.rows) in
    made.0
