use Rattle.std.proofs.Common.{◌<◌, ◌+◌, ◌∙◌, ℕ, map, arith, sym, ap, ap₂, subst}
use Rattle.std.specs.List.{All, insert}
use Rattle.grid_core.specs.Places.{lifted}
use Rattle.grid_moves.specs.Widening.{widened}
use Rattle.grid_canon.specs.Digits.{short_number}
use Rattle.grid_canon.proofs.CutNumbers.{few, few_crosses, few_rings, crosses_are, rings_are}
use Rattle.grid_canon.proofs.ShortGrids.{short_from, lifted_known, widened_number, size-widened}
use Rattle.grid_canon.proofs.short_grid.ShortGrid.widened.Goals as goal

pub lifted-crosses-requires-clause-row : goal.lifted-crosses-requires-clause-row
lifted-crosses-requires-clause-row c =
    let s = c.self.inside in
    let d = c.args.self.now in
    let w = c.args.widening in
    let f = few s.size s.crosses s.rings d c.self.view_is c.self.invariant in
    omega (arith, c.from-row.ensures, c.requires.row, f.columns)

pub lifted-crosses-requires-clause-inside : goal.lifted-crosses-requires-clause-inside
lifted-crosses-requires-clause-inside c =
    let s = c.self.inside in
    let d = c.args.self.now in
    let w = c.args.widening in
    let f = few s.size s.crosses s.rings d c.self.view_is c.self.invariant in
    subst (λ zs. All (λ r. r < s.size) zs) (sym (crosses_are s.size s.crosses s.rings d c.self.view_is)) (few_crosses s.size d f)

pub lifted-rings-requires-clause-row : goal.lifted-rings-requires-clause-row
lifted-rings-requires-clause-row c =
    let s = c.self.inside in
    let d = c.args.self.now in
    let w = c.args.widening in
    let f = few s.size s.crosses s.rings d c.self.view_is c.self.invariant in
    omega (arith, c.from-row.ensures, c.requires.row, f.columns)

pub lifted-rings-requires-clause-inside : goal.lifted-rings-requires-clause-inside
lifted-rings-requires-clause-inside c =
    let s = c.self.inside in
    let d = c.args.self.now in
    let w = c.args.widening in
    let f = few s.size s.crosses s.rings d c.self.view_is c.self.invariant in
    subst (λ zs. All (λ r. r < s.size) zs) (sym (rings_are s.size s.crosses s.rings d c.self.view_is)) (few_rings s.size d f)

pub with_digit-requires-clause-place : goal.with_digit-requires-clause-place
with_digit-requires-clause-place c =
    let s = c.self.inside in
    let d = c.args.self.now in
    let w = c.args.widening in
    let f = few s.size s.crosses s.rings d c.self.view_is c.self.invariant in
    omega (arith, c.from.ensures, c.requires.crosses, f.columns)

pub with_digit-requires-clause-value : goal.with_digit-requires-clause-value
with_digit-requires-clause-value c =
    let s = c.self.inside in
    let d = c.args.self.now in
    let w = c.args.widening in
    let f = few s.size s.crosses s.rings d c.self.view_is c.self.invariant in
    let x =
    lifted_known s.size c.from-row.result c.lifted-crosses.result d.x f.columns (omega (arith, c.requires.short, f.columns))
    (omega (arith, c.from-row.ensures, c.requires.row, f.columns)) (few_crosses s.size d f)
    (c.lifted-crosses.ensures ∙ ap (λ zs. short_number (map (lifted c.from-row.result) zs)) (crosses_are s.size s.crosses s.rings d c.self.view_is)) in
    x.fits

pub with_digit-requires-2-clause-place : goal.with_digit-requires-2-clause-place
with_digit-requires-2-clause-place c =
    let s = c.self.inside in
    let d = c.args.self.now in
    let w = c.args.widening in
    let f = few s.size s.crosses s.rings d c.self.view_is c.self.invariant in
    omega (arith, c.from-2.ensures, c.requires.rings, f.columns)

pub with_digit-requires-2-clause-value : goal.with_digit-requires-2-clause-value
with_digit-requires-2-clause-value c =
    let s = c.self.inside in
    let d = c.args.self.now in
    let w = c.args.widening in
    let f = few s.size s.crosses s.rings d c.self.view_is c.self.invariant in
    let o =
    lifted_known s.size c.from-row.result c.lifted-rings.result d.o (f.grid.same ∙ f.columns) (omega (arith, c.requires.short, f.columns))
    (omega (arith, c.from-row.ensures, c.requires.row, f.columns)) (few_rings s.size d f)
    (c.lifted-rings.ensures ∙ ap (λ zs. short_number (map (lifted c.from-row.result) zs)) (rings_are s.size s.crosses s.rings d c.self.view_is)) in
    o.fits

pub invariant_of-result : goal.invariant_of-result
invariant_of-result c =
    let s = c.self.inside in
    let d = c.args.self.now in
    let w = c.args.widening in
    let f = few s.size s.crosses s.rings d c.self.view_is c.self.invariant in
    let x =
    lifted_known s.size c.from-row.result c.lifted-crosses.result d.x f.columns (omega (arith, c.requires.short, f.columns))
    (omega (arith, c.from-row.ensures, c.requires.row, f.columns)) (few_crosses s.size d f)
    (c.lifted-crosses.ensures ∙ ap (λ zs. short_number (map (lifted c.from-row.result) zs)) (crosses_are s.size s.crosses s.rings d c.self.view_is)) in
    let o =
    lifted_known s.size c.from-row.result c.lifted-rings.result d.o (f.grid.same ∙ f.columns) (omega (arith, c.requires.short, f.columns))
    (omega (arith, c.from-row.ensures, c.requires.row, f.columns)) (few_rings s.size d f)
    (c.lifted-rings.ensures ∙ ap (λ zs. short_number (map (lifted c.from-row.result) zs)) (rings_are s.size s.crosses s.rings d c.self.view_is)) in
    (short_from (widened w d) (s.size + 1) c.with_digit.result c.with_digit-2.result c.requires.grid
    (size-widened w d c.requires.crosses ∙ ap (λ (z : ℕ). z + 1) f.columns) (omega (arith, c.requires.short, f.columns))
    (widened_number s.size c.from-row.result c.lifted-crosses.result c.from.result c.with_digit.result d.x x c.with_digit.ensures
    ∙ ap₂ (λ (z p : ℕ). short_number (insert (map (lifted z) d.x) p z)) c.from-row.ensures c.from.ensures)
    (widened_number s.size c.from-row.result c.lifted-rings.result c.from-2.result c.with_digit-2.result d.o o c.with_digit-2.ensures
    ∙ ap₂ (λ (z p : ℕ). short_number (insert (map (lifted z) d.o) p z)) c.from-row.ensures c.from-2.ensures)).1

pub returns : goal.returns
returns c =
    let s = c.self.inside in
    let d = c.args.self.now in
    let w = c.args.widening in
    let f = few s.size s.crosses s.rings d c.self.view_is c.self.invariant in
    let x =
    lifted_known s.size c.from-row.result c.lifted-crosses.result d.x f.columns (omega (arith, c.requires.short, f.columns))
    (omega (arith, c.from-row.ensures, c.requires.row, f.columns)) (few_crosses s.size d f)
    (c.lifted-crosses.ensures ∙ ap (λ zs. short_number (map (lifted c.from-row.result) zs)) (crosses_are s.size s.crosses s.rings d c.self.view_is)) in
    let o =
    lifted_known s.size c.from-row.result c.lifted-rings.result d.o (f.grid.same ∙ f.columns) (omega (arith, c.requires.short, f.columns))
    (omega (arith, c.from-row.ensures, c.requires.row, f.columns)) (few_rings s.size d f)
    (c.lifted-rings.ensures ∙ ap (λ zs. short_number (map (lifted c.from-row.result) zs)) (rings_are s.size s.crosses s.rings d c.self.view_is)) in
    (short_from (widened w d) (s.size + 1) c.with_digit.result c.with_digit-2.result c.requires.grid
    (size-widened w d c.requires.crosses ∙ ap (λ (z : ℕ). z + 1) f.columns) (omega (arith, c.requires.short, f.columns))
    (widened_number s.size c.from-row.result c.lifted-crosses.result c.from.result c.with_digit.result d.x x c.with_digit.ensures
    ∙ ap₂ (λ (z p : ℕ). short_number (insert (map (lifted z) d.x) p z)) c.from-row.ensures c.from.ensures)
    (widened_number s.size c.from-row.result c.lifted-rings.result c.from-2.result c.with_digit-2.result d.o o c.with_digit-2.ensures
    ∙ ap₂ (λ (z p : ℕ). short_number (insert (map (lifted z) d.o) p z)) c.from-row.ensures c.from-2.ensures)).0
