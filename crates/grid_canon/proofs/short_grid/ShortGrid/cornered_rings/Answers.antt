use Rattle.std.proofs.Common.{◌∙◌, ◌++◌, take, drop, arith, ap}
use Rattle.grid_canon.specs.Digits.{short_number}
use Rattle.grid_canon.proofs.CutNumbers.{few, row_within, rings_are, rings_cut, cornered_rings}
use Rattle.grid_canon.proofs.short_grid.ShortGrid.cornered_rings.Goals as goal

pub cut-requires-clause-place : goal.cut-requires-clause-place
cut-requires-clause-place c =
    let s = c.self.inside in
    let d = c.args.self.now in
    let f = few s.size s.crosses s.rings d c.self.view_is c.self.invariant in
    omega (arith, c.requires.column, f.columns)

pub lowered-requires-clause-value : goal.lowered-requires-clause-value
lowered-requires-clause-value c =
    let s = c.self.inside in
    let d = c.args.self.now in
    let f = few s.size s.crosses s.rings d c.self.view_is c.self.invariant in
    let cut =
    rings_cut s.size c.args.column c.cut.result d f (omega (arith, c.requires.column, f.columns))
    (c.cut.ensures ∙ ap (λ zs. short_number (drop c.args.column zs ++ take c.args.column zs)) (rings_are s.size s.crosses s.rings d c.self.view_is)) in
    cut.fits

pub lowered-requires-clause-by : goal.lowered-requires-clause-by
lowered-requires-clause-by c =
    let s = c.self.inside in
    let d = c.args.self.now in
    let f = few s.size s.crosses s.rings d c.self.view_is c.self.invariant in
    row_within s.size c.args.column c.args.row d f c.requires.column c.requires.row

pub lowered-requires-clause-inside : goal.lowered-requires-clause-inside
lowered-requires-clause-inside c =
    let s = c.self.inside in
    let d = c.args.self.now in
    let f = few s.size s.crosses s.rings d c.self.view_is c.self.invariant in
    let cut =
    rings_cut s.size c.args.column c.cut.result d f (omega (arith, c.requires.column, f.columns))
    (c.cut.ensures ∙ ap (λ zs. short_number (drop c.args.column zs ++ take c.args.column zs)) (rings_are s.size s.crosses s.rings d c.self.view_is)) in
    cut.inside

pub returns : goal.returns
returns c =
    let s = c.self.inside in
    let d = c.args.self.now in
    let f = few s.size s.crosses s.rings d c.self.view_is c.self.invariant in
    let cut =
    rings_cut s.size c.args.column c.cut.result d f (omega (arith, c.requires.column, f.columns))
    (c.cut.ensures ∙ ap (λ zs. short_number (drop c.args.column zs ++ take c.args.column zs)) (rings_are s.size s.crosses s.rings d c.self.view_is)) in
    cornered_rings s.size c.args.column c.args.row c.cut.result c.lowered.result d f cut c.requires.row c.lowered.ensures
