use Rattle.std.proofs.Common.{◌<◌, ◌∙◌, ◌++◌, take, drop, arith, ap, sym, subst}
use Rattle.std.specs.List.{All}
use Rattle.grid_canon.specs.Digits.{short_number}
use Rattle.grid_canon.proofs.CutNumbers.{few, few_crosses, crosses_are, crosses_cut}
use Rattle.grid_canon.proofs.LowColumns.{steps_of, low_columns_of}
use Rattle.grid_canon.proofs.short_grid.ShortGrid.low_columns.Goals as goal

pub cut-requires-clause-place : goal.cut-requires-clause-place
cut-requires-clause-place c =
    let s = c.self.inside in
    let d = c.args.self.now in
    let f = few s.size s.crosses s.rings d c.self.view_is c.self.invariant in
    let own = crosses_are s.size s.crosses s.rings d c.self.view_is in
    omega (arith, f.columns, f.grid.least)

pub lowered_each-requires-clause-value : goal.lowered_each-requires-clause-value
lowered_each-requires-clause-value c =
    let s = c.self.inside in
    let d = c.args.self.now in
    let f = few s.size s.crosses s.rings d c.self.view_is c.self.invariant in
    let own = crosses_are s.size s.crosses s.rings d c.self.view_is in
    let cut =
    crosses_cut s.size 1 c.cut.result d f (omega (arith, f.columns, f.grid.least))
    (c.cut.ensures ∙ ap (λ zs. short_number (drop 1 zs ++ take 1 zs)) own) in
    cut.fits

pub lowered_each-requires-clause-inside : goal.lowered_each-requires-clause-inside
lowered_each-requires-clause-inside c =
    let s = c.self.inside in
    let d = c.args.self.now in
    let f = few s.size s.crosses s.rings d c.self.view_is c.self.invariant in
    let own = crosses_are s.size s.crosses s.rings d c.self.view_is in
    let cut =
    crosses_cut s.size 1 c.cut.result d f (omega (arith, f.columns, f.grid.least))
    (c.cut.ensures ∙ ap (λ zs. short_number (drop 1 zs ++ take 1 zs)) own) in
    cut.inside

pub lowered_each-requires-clause-by_inside : goal.lowered_each-requires-clause-by_inside
lowered_each-requires-clause-by_inside c =
    let s = c.self.inside in
    let d = c.args.self.now in
    let f = few s.size s.crosses s.rings d c.self.view_is c.self.invariant in
    let own = crosses_are s.size s.crosses s.rings d c.self.view_is in
    subst (λ zs. All (λ r. r < s.size) zs) (sym own) (few_crosses s.size d f)

pub low_digits-requires-clause-least : goal.low_digits-requires-clause-least
low_digits-requires-clause-least c =
    let s = c.self.inside in
    let d = c.args.self.now in
    let f = few s.size s.crosses s.rings d c.self.view_is c.self.invariant in
    let own = crosses_are s.size s.crosses s.rings d c.self.view_is in
    omega (arith, f.columns, f.grid.least)

pub low_digits-requires-clause-value : goal.low_digits-requires-clause-value
low_digits-requires-clause-value c =
    let s = c.self.inside in
    let d = c.args.self.now in
    let f = few s.size s.crosses s.rings d c.self.view_is c.self.invariant in
    let own = crosses_are s.size s.crosses s.rings d c.self.view_is in
    let cut =
    crosses_cut s.size 1 c.cut.result d f (omega (arith, f.columns, f.grid.least))
    (c.cut.ensures ∙ ap (λ zs. short_number (drop 1 zs ++ take 1 zs)) own) in
    let steps = steps_of s.size s.crosses c.cut.result c.lowered_each.result d f own cut c.lowered_each.ensures in
    steps.fits

pub low_digits-requires-clause-inside : goal.low_digits-requires-clause-inside
low_digits-requires-clause-inside c =
    let s = c.self.inside in
    let d = c.args.self.now in
    let f = few s.size s.crosses s.rings d c.self.view_is c.self.invariant in
    let own = crosses_are s.size s.crosses s.rings d c.self.view_is in
    let cut =
    crosses_cut s.size 1 c.cut.result d f (omega (arith, f.columns, f.grid.least))
    (c.cut.ensures ∙ ap (λ zs. short_number (drop 1 zs ++ take 1 zs)) own) in
    let steps = steps_of s.size s.crosses c.cut.result c.lowered_each.result d f own cut c.lowered_each.ensures in
    steps.inside

pub returns : goal.returns
returns c =
    let s = c.self.inside in
    let d = c.args.self.now in
    let f = few s.size s.crosses s.rings d c.self.view_is c.self.invariant in
    let own = crosses_are s.size s.crosses s.rings d c.self.view_is in
    let cut =
    crosses_cut s.size 1 c.cut.result d f (omega (arith, f.columns, f.grid.least))
    (c.cut.ensures ∙ ap (λ zs. short_number (drop 1 zs ++ take 1 zs)) own) in
    let steps = steps_of s.size s.crosses c.cut.result c.lowered_each.result d f own cut c.lowered_each.ensures in
    low_columns_of s.size c.lowered_each.result c.low_digits.result d steps c.low_digits.ensures
