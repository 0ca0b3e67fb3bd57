use Rattle.std.proofs.Common.{◌∙◌, ◌+◌, ℕ, arith, ap₂}
use Rattle.std.specs.List.{swap}
use Rattle.std.proofs.lemmas.List.Edits.{length-swap}
use Rattle.grid_moves.specs.Exchanged.{columns_exchanged}
use Rattle.grid_moves.proofs.Exchanged.{columns_exchanged-grid}
use Rattle.grid_canon.specs.Digits.{short_number}
use Rattle.grid_canon.proofs.CutNumbers.{few, crosses_are, rings_are}
use Rattle.grid_canon.proofs.ShortGrids.{short_from}
use Rattle.grid_canon.proofs.short_grid.ShortGrid.with_columns_exchanged.Goals as goal

pub swapped-requires-clause-place : goal.swapped-requires-clause-place
swapped-requires-clause-place c =
    let s = c.self.inside in
    let f = few s.size s.crosses s.rings c.args.self.now c.self.view_is c.self.invariant in
    omega (arith, c.requires, f.columns, c.from-place.ensures)

pub swapped-requires-2-clause-place : goal.swapped-requires-2-clause-place
swapped-requires-2-clause-place c =
    let s = c.self.inside in
    let f = few s.size s.crosses s.rings c.args.self.now c.self.view_is c.self.invariant in
    omega (arith, c.requires, f.columns, c.from-place.ensures)

pub invariant_of-result : goal.invariant_of-result
invariant_of-result c =
    let s = c.self.inside in
    let d = c.args.self.now in
    let f = few s.size s.crosses s.rings d c.self.view_is c.self.invariant in
    (short_from (columns_exchanged c.args.column d) s.size c.swapped.result c.swapped-2.result (columns_exchanged-grid c.args.column d f.grid c.requires)
    (length-swap d.x c.args.column (c.args.column + 1) ∙ f.columns) f.most
    (c.swapped.ensures ∙ ap₂ (λ zs (z : ℕ). short_number (swap zs z (z + 1))) (crosses_are s.size s.crosses s.rings d c.self.view_is) c.from-place.ensures)
    (c.swapped-2.ensures ∙ ap₂ (λ zs (z : ℕ). short_number (swap zs z (z + 1))) (rings_are s.size s.crosses s.rings d c.self.view_is) c.from-place.ensures)).1

pub returns : goal.returns
returns c =
    let s = c.self.inside in
    let d = c.args.self.now in
    let f = few s.size s.crosses s.rings d c.self.view_is c.self.invariant in
    (short_from (columns_exchanged c.args.column d) s.size c.swapped.result c.swapped-2.result (columns_exchanged-grid c.args.column d f.grid c.requires)
    (length-swap d.x c.args.column (c.args.column + 1) ∙ f.columns) f.most
    (c.swapped.ensures ∙ ap₂ (λ zs (z : ℕ). short_number (swap zs z (z + 1))) (crosses_are s.size s.crosses s.rings d c.self.view_is) c.from-place.ensures)
    (c.swapped-2.ensures ∙ ap₂ (λ zs (z : ℕ). short_number (swap zs z (z + 1))) (rings_are s.size s.crosses s.rings d c.self.view_is) c.from-place.ensures)).0
