use Rattle.std.proofs.Common.{◌≡◌, ◌-◌, ◌∙◌, ℕ, List, map, arith, ap, ap₂}
use Rattle.std.specs.List.{remove}
use Rattle.grid_core.specs.Places.{lowered}
use Rattle.grid_moves.specs.Narrowing.{narrowed}
use Rattle.grid_canon.specs.Digits.{short_number}
use Rattle.grid_canon.specs.ShortGrid.{of_digits, IsShort}
use Rattle.grid_canon.proofs.CutNumbers.{few, few_crosses, few_rings, crosses_are, rings_are}
use Rattle.grid_canon.proofs.ShortGrids.{short_from, removed_known, size-narrowed}
use Rattle.grid_canon.proofs.short_grid.ShortGrid.narrowed.Goals as goal
use Rattle.grid_canon.proofs.short_grid.ShortGrid.narrowed.Goals.{After-dropped-2}

pub without_digit-crosses-requires-clause-place : goal.without_digit-crosses-requires-clause-place
without_digit-crosses-requires-clause-place c =
    let s = c.self.inside in
    let d = c.args.self.now in
    let f = few s.size s.crosses s.rings d c.self.view_is c.self.invariant in
    omega (arith, c.from.ensures, c.requires.crosses, f.columns)

pub without_digit-rings-requires-clause-place : goal.without_digit-rings-requires-clause-place
without_digit-rings-requires-clause-place c =
    let s = c.self.inside in
    let d = c.args.self.now in
    let f = few s.size s.crosses s.rings d c.self.view_is c.self.invariant in
    omega (arith, c.from-2.ensures, c.requires.rings, f.columns)

pub dropped-requires-clause-value : goal.dropped-requires-clause-value
dropped-requires-clause-value c =
    let s = c.self.inside in
    let d = c.args.self.now in
    let f = few s.size s.crosses s.rings d c.self.view_is c.self.invariant in
    let x =
    removed_known s.size c.from.result c.without_digit-crosses.result d.x f.columns f.most (omega (arith, c.from.ensures, c.requires.crosses, f.columns))
    (few_crosses s.size d f)
    (c.without_digit-crosses.ensures ∙ ap (λ zs. short_number (remove zs c.from.result)) (crosses_are s.size s.crosses s.rings d c.self.view_is)) in
    x.fits

pub dropped-requires-clause-row : goal.dropped-requires-clause-row
dropped-requires-clause-row c =
    let s = c.self.inside in
    let d = c.args.self.now in
    let f = few s.size s.crosses s.rings d c.self.view_is c.self.invariant in
    omega (arith, c.from-row.ensures, c.requires.row, f.columns, f.most)

pub dropped-requires-clause-inside : goal.dropped-requires-clause-inside
dropped-requires-clause-inside c =
    let s = c.self.inside in
    let d = c.args.self.now in
    let f = few s.size s.crosses s.rings d c.self.view_is c.self.invariant in
    let x =
    removed_known s.size c.from.result c.without_digit-crosses.result d.x f.columns f.most (omega (arith, c.from.ensures, c.requires.crosses, f.columns))
    (few_crosses s.size d f)
    (c.without_digit-crosses.ensures ∙ ap (λ zs. short_number (remove zs c.from.result)) (crosses_are s.size s.crosses s.rings d c.self.view_is)) in
    x.inside

pub dropped-requires-2-clause-value : goal.dropped-requires-2-clause-value
dropped-requires-2-clause-value c =
    let s = c.self.inside in
    let d = c.args.self.now in
    let f = few s.size s.crosses s.rings d c.self.view_is c.self.invariant in
    let o =
    removed_known s.size c.from-2.result c.without_digit-rings.result d.o (f.grid.same ∙ f.columns) f.most
    (omega (arith, c.from-2.ensures, c.requires.rings, f.columns)) (few_rings s.size d f)
    (c.without_digit-rings.ensures ∙ ap (λ zs. short_number (remove zs c.from-2.result)) (rings_are s.size s.crosses s.rings d c.self.view_is)) in
    o.fits

pub dropped-requires-2-clause-row : goal.dropped-requires-2-clause-row
dropped-requires-2-clause-row c =
    let s = c.self.inside in
    let d = c.args.self.now in
    let f = few s.size s.crosses s.rings d c.self.view_is c.self.invariant in
    omega (arith, c.from-row.ensures, c.requires.row, f.columns, f.most)

pub dropped-requires-2-clause-inside : goal.dropped-requires-2-clause-inside
dropped-requires-2-clause-inside c =
    let s = c.self.inside in
    let d = c.args.self.now in
    let f = few s.size s.crosses s.rings d c.self.view_is c.self.invariant in
    let o =
    removed_known s.size c.from-2.result c.without_digit-rings.result d.o (f.grid.same ∙ f.columns) f.most
    (omega (arith, c.from-2.ensures, c.requires.rings, f.columns)) (few_rings s.size d f)
    (c.without_digit-rings.ensures ∙ ap (λ zs. short_number (remove zs c.from-2.result)) (rings_are s.size s.crosses s.rings d c.self.view_is)) in
    o.inside

-- the two new numbers are those of the narrowed grid
made : (c : After-dropped-2) → (of_digits (c.self.inside.size - 1) c.dropped.result c.dropped-2.result ≡ narrowed c.args.narrowing c.args.self.now)
    × IsShort (c.self.inside.size - 1) c.dropped.result c.dropped-2.result
made c =
    let s = c.self.inside in
    let d = c.args.self.now in
    let f = few s.size s.crosses s.rings d c.self.view_is c.self.invariant in
    let x =
    removed_known s.size c.from.result c.without_digit-crosses.result d.x f.columns f.most (omega (arith, c.from.ensures, c.requires.crosses, f.columns))
    (few_crosses s.size d f)
    (c.without_digit-crosses.ensures ∙ ap (λ zs. short_number (remove zs c.from.result)) (crosses_are s.size s.crosses s.rings d c.self.view_is)) in
    let o =
    removed_known s.size c.from-2.result c.without_digit-rings.result d.o (f.grid.same ∙ f.columns) f.most
    (omega (arith, c.from-2.ensures, c.requires.rings, f.columns)) (few_rings s.size d f)
    (c.without_digit-rings.ensures ∙ ap (λ zs. short_number (remove zs c.from-2.result)) (rings_are s.size s.crosses s.rings d c.self.view_is)) in
    let row : c.from-row.result ≡ c.args.narrowing.row = c.from-row.ensures in
    let rows : (list : List ℕ) (place at value : ℕ) → place ≡ at → value ≡ short_number (map (lowered c.from-row.result) (remove list place))
    → value ≡ short_number (map (lowered c.args.narrowing.row) (remove list at)) = λ list place at value same is.
    is ∙ ap₂ (λ (z p : ℕ). short_number (map (lowered z) (remove list p))) row same in
    short_from (narrowed c.args.narrowing d) (s.size - 1) c.dropped.result c.dropped-2.result c.requires.grid
    (size-narrowed c.args.narrowing d c.requires.crosses ∙ ap (λ (z : ℕ). z - 1) f.columns) (omega (arith, f.most))
    (rows d.x c.from.result c.args.narrowing.crosses c.dropped.result c.from.ensures
    (c.dropped.ensures ∙ ap (λ zs. short_number (map (lowered c.from-row.result) zs)) x.list))
    (rows d.o c.from-2.result c.args.narrowing.rings c.dropped-2.result c.from-2.ensures
    (c.dropped-2.ensures ∙ ap (λ zs. short_number (map (lowered c.from-row.result) zs)) o.list))

pub invariant_of-result : goal.invariant_of-result
invariant_of-result c =
    (made c).1

pub returns : goal.returns
returns c =
    (made c).0
