use Rattle.std.proofs.Common.{◌≡◌, ◌∙◌, ◌++◌, ℕ, List, take, drop, arith, sym, ap, ap₂}
use Rattle.grid_core.specs.Diagram.{size}
use Rattle.grid_keys.specs.Translation.{translated_rows, translate}
use Rattle.grid_canon.specs.Digits.{short_number}
use Rattle.grid_canon.specs.ShortGrid.{of_digits, IsShort}
use Rattle.grid_keys.proofs.Translated.{size-translate, translate-grid}
use Rattle.grid_canon.proofs.CutNumbers.{few, crosses_are, rings_are, crosses_cut, rings_cut, translated_number}
use Rattle.grid_canon.proofs.ShortGrids.{short_from}
use Rattle.grid_canon.proofs.short_grid.ShortGrid.shifted.Goals as goal
use Rattle.grid_canon.proofs.short_grid.ShortGrid.shifted.Goals.{After-lowered-2}

pub cut-requires-clause-place : goal.cut-requires-clause-place
cut-requires-clause-place c =
    let s = c.self.inside in
    let d = c.args.self.now in
    let f = few s.size s.crosses s.rings d c.self.view_is c.self.invariant in
    omega (arith, c.requires.columns, f.columns, c.from-place.ensures)

pub cut-requires-2-clause-place : goal.cut-requires-2-clause-place
cut-requires-2-clause-place c =
    let s = c.self.inside in
    let d = c.args.self.now in
    let f = few s.size s.crosses s.rings d c.self.view_is c.self.invariant in
    omega (arith, c.requires.columns, f.columns, c.from-place.ensures)

pub lowered-requires-clause-value : goal.lowered-requires-clause-value
lowered-requires-clause-value c =
    let s = c.self.inside in
    let d = c.args.self.now in
    let f = few s.size s.crosses s.rings d c.self.view_is c.self.invariant in
    let x =
    crosses_cut s.size c.from-place.result c.cut.result d f (omega (arith, c.requires.columns, f.columns, c.from-place.ensures))
    (c.cut.ensures ∙ ap (λ zs. short_number (drop c.from-place.result zs ++ take c.from-place.result zs)) (crosses_are s.size s.crosses s.rings d c.self.view_is)) in
    x.fits

pub lowered-requires-clause-by : goal.lowered-requires-clause-by
lowered-requires-clause-by c =
    let s = c.self.inside in
    let d = c.args.self.now in
    let f = few s.size s.crosses s.rings d c.self.view_is c.self.invariant in
    omega (arith, c.requires.rows, f.columns, c.from-by.ensures)

pub lowered-requires-2-clause-by : goal.lowered-requires-2-clause-by
lowered-requires-2-clause-by c =
    let s = c.self.inside in
    let d = c.args.self.now in
    let f = few s.size s.crosses s.rings d c.self.view_is c.self.invariant in
    omega (arith, c.requires.rows, f.columns, c.from-by.ensures)

pub lowered-requires-clause-inside : goal.lowered-requires-clause-inside
lowered-requires-clause-inside c =
    let s = c.self.inside in
    let d = c.args.self.now in
    let f = few s.size s.crosses s.rings d c.self.view_is c.self.invariant in
    let x =
    crosses_cut s.size c.from-place.result c.cut.result d f (omega (arith, c.requires.columns, f.columns, c.from-place.ensures))
    (c.cut.ensures ∙ ap (λ zs. short_number (drop c.from-place.result zs ++ take c.from-place.result zs)) (crosses_are s.size s.crosses s.rings d c.self.view_is)) in
    x.inside

pub lowered-requires-2-clause-value : goal.lowered-requires-2-clause-value
lowered-requires-2-clause-value c =
    let s = c.self.inside in
    let d = c.args.self.now in
    let f = few s.size s.crosses s.rings d c.self.view_is c.self.invariant in
    let o =
    rings_cut s.size c.from-place.result c.cut-2.result d f (omega (arith, c.requires.columns, f.columns, c.from-place.ensures))
    (c.cut-2.ensures ∙ ap (λ zs. short_number (drop c.from-place.result zs ++ take c.from-place.result zs)) (rings_are s.size s.crosses s.rings d c.self.view_is)) in
    o.fits

pub lowered-requires-2-clause-inside : goal.lowered-requires-2-clause-inside
lowered-requires-2-clause-inside c =
    let s = c.self.inside in
    let d = c.args.self.now in
    let f = few s.size s.crosses s.rings d c.self.view_is c.self.invariant in
    let o =
    rings_cut s.size c.from-place.result c.cut-2.result d f (omega (arith, c.requires.columns, f.columns, c.from-place.ensures))
    (c.cut-2.ensures ∙ ap (λ zs. short_number (drop c.from-place.result zs ++ take c.from-place.result zs)) (rings_are s.size s.crosses s.rings d c.self.view_is)) in
    o.inside

-- the two new numbers are those of the translate
made : (c : After-lowered-2) → (of_digits c.self.inside.size c.lowered.result c.lowered-2.result ≡ translate c.args.self.now c.args.columns c.args.rows)
    × IsShort c.self.inside.size c.lowered.result c.lowered-2.result
made c =
    let s = c.self.inside in
    let d = c.args.self.now in
    let f = few s.size s.crosses s.rings d c.self.view_is c.self.invariant in
    let x =
    crosses_cut s.size c.from-place.result c.cut.result d f (omega (arith, c.requires.columns, f.columns, c.from-place.ensures))
    (c.cut.ensures ∙ ap (λ zs. short_number (drop c.from-place.result zs ++ take c.from-place.result zs)) (crosses_are s.size s.crosses s.rings d c.self.view_is)) in
    let o =
    rings_cut s.size c.from-place.result c.cut-2.result d f (omega (arith, c.requires.columns, f.columns, c.from-place.ensures))
    (c.cut-2.ensures ∙ ap (λ zs. short_number (drop c.from-place.result zs ++ take c.from-place.result zs)) (rings_are s.size s.crosses s.rings d c.self.view_is)) in
    let made : (rows : List ℕ) (value : ℕ) → value ≡ short_number (translated_rows s.size c.from-place.result c.from-by.result rows)
    → value ≡ short_number (translated_rows (size d) c.args.columns c.args.rows rows) = λ rows value is.
    is ∙ ap₂ (λ (z w : ℕ). short_number (translated_rows z w c.from-by.result rows)) (sym f.columns) c.from-place.ensures
    ∙ ap (λ (w : ℕ). short_number (translated_rows (size d) c.args.columns w rows)) c.from-by.ensures in
    (short_from (translate d c.args.columns c.args.rows) s.size c.lowered.result c.lowered-2.result
    (translate-grid d c.args.columns c.args.rows f.grid c.requires.columns c.requires.rows)
    (size-translate d c.args.columns c.args.rows c.requires.columns ∙ f.columns) f.most
    (made d.x c.lowered.result (translated_number s.size c.from-place.result c.from-by.result c.cut.result c.lowered.result d.x x c.lowered.ensures))
    (made d.o c.lowered-2.result (translated_number s.size c.from-place.result c.from-by.result c.cut-2.result c.lowered-2.result d.o o c.lowered-2.ensures)))

pub invariant_of-result : goal.invariant_of-result
invariant_of-result c = (made c).1

pub returns : goal.returns
returns c = (made c).0
