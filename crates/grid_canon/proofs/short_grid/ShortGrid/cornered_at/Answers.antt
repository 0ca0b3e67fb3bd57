use Rattle.std.proofs.Common.{◌∙◌, ◌++◌, take, drop, arith, ap}
use Rattle.grid_canon.specs.Digits.{short_number}
use Rattle.grid_canon.proofs.CutNumbers.{few, crosses_are, crosses_cut, first_row, cornered_crosses}
use Rattle.grid_canon.proofs.short_grid.ShortGrid.cornered_at.Goals as goal

pub cut-crosses-requires-clause-place : goal.cut-crosses-requires-clause-place
cut-crosses-requires-clause-place c =
    let s = c.self.inside in
    let d = c.args.self.now in
    let f = few s.size s.crosses s.rings d c.self.view_is c.self.invariant in
    omega (arith, c.requires, f.columns)

pub lowered-requires-clause-value : goal.lowered-requires-clause-value
lowered-requires-clause-value c =
    let s = c.self.inside in
    let d = c.args.self.now in
    let f = few s.size s.crosses s.rings d c.self.view_is c.self.invariant in
    let cut =
    crosses_cut s.size c.args.column c.cut-crosses.result d f (omega (arith, c.requires, f.columns))
    (c.cut-crosses.ensures
    ∙ ap (λ zs. short_number (drop c.args.column zs ++ take c.args.column zs)) (crosses_are s.size s.crosses s.rings d c.self.view_is)) in
    cut.fits

pub lowered-requires-clause-by : goal.lowered-requires-clause-by
lowered-requires-clause-by c =
    let s = c.self.inside in
    let d = c.args.self.now in
    let f = few s.size s.crosses s.rings d c.self.view_is c.self.invariant in
    let cut =
    crosses_cut s.size c.args.column c.cut-crosses.result d f (omega (arith, c.requires, f.columns))
    (c.cut-crosses.ensures
    ∙ ap (λ zs. short_number (drop c.args.column zs ++ take c.args.column zs)) (crosses_are s.size s.crosses s.rings d c.self.view_is)) in
    (first_row s.size c.args.column c.cut-crosses.result c.first_digit-row.result d f (omega (arith, c.requires, f.columns)) cut c.first_digit-row.ensures).1

pub lowered-requires-clause-inside : goal.lowered-requires-clause-inside
lowered-requires-clause-inside c =
    let s = c.self.inside in
    let d = c.args.self.now in
    let f = few s.size s.crosses s.rings d c.self.view_is c.self.invariant in
    let cut =
    crosses_cut s.size c.args.column c.cut-crosses.result d f (omega (arith, c.requires, f.columns))
    (c.cut-crosses.ensures
    ∙ ap (λ zs. short_number (drop c.args.column zs ++ take c.args.column zs)) (crosses_are s.size s.crosses s.rings d c.self.view_is)) in
    cut.inside

pub returns-clause-found : goal.returns-clause-found
returns-clause-found c =
    let s = c.self.inside in
    let d = c.args.self.now in
    let f = few s.size s.crosses s.rings d c.self.view_is c.self.invariant in
    let cut =
    crosses_cut s.size c.args.column c.cut-crosses.result d f (omega (arith, c.requires, f.columns))
    (c.cut-crosses.ensures
    ∙ ap (λ zs. short_number (drop c.args.column zs ++ take c.args.column zs)) (crosses_are s.size s.crosses s.rings d c.self.view_is)) in
    let row = first_row s.size c.args.column c.cut-crosses.result c.first_digit-row.result d f (omega (arith, c.requires, f.columns)) cut
    c.first_digit-row.ensures in
    record {
      inside = c.requires;
      row_is = row.0;
      crosses_are =
          cornered_crosses s.size c.args.column c.first_digit-row.result c.cut-crosses.result c.lowered.result d f cut row.0 c.lowered.ensures;
    }
