use Rattle.std.proofs.Common.{◌<◌, ◌∙◌, ℕ, map, arith, sym, ap₂, subst}
use Rattle.std.specs.List.{All}
use Rattle.std.proofs.lemmas.List.{length-map}
use Rattle.grid_moves.specs.Exchange.{exchanged}
use Rattle.grid_moves.specs.Exchanged.{rows_exchanged}
use Rattle.grid_moves.proofs.Exchanged.{rows_exchanged-grid}
use Rattle.grid_canon.specs.Digits.{short_number}
use Rattle.grid_canon.proofs.CutNumbers.{few, few_crosses, few_rings, crosses_are, rings_are}
use Rattle.grid_canon.proofs.ShortGrids.{short_from}
use Rattle.grid_canon.proofs.short_grid.ShortGrid.with_rows_exchanged.Goals as goal

pub exchanged-requires-clause-row : goal.exchanged-requires-clause-row
exchanged-requires-clause-row c =
    let s = c.self.inside in
    let f = few s.size s.crosses s.rings c.args.self.now c.self.view_is c.self.invariant in
    omega (arith, c.requires.row, f.columns, c.from-first.ensures)

pub exchanged-requires-2-clause-row : goal.exchanged-requires-2-clause-row
exchanged-requires-2-clause-row c =
    let s = c.self.inside in
    let f = few s.size s.crosses s.rings c.args.self.now c.self.view_is c.self.invariant in
    omega (arith, c.requires.row, f.columns, c.from-first.ensures)

pub exchanged-requires-clause-inside : goal.exchanged-requires-clause-inside
exchanged-requires-clause-inside c =
    let s = c.self.inside in
    let d = c.args.self.now in
    let f = few s.size s.crosses s.rings d c.self.view_is c.self.invariant in
    subst (λ zs. All (λ r. r < s.size) zs) (sym (crosses_are s.size s.crosses s.rings d c.self.view_is)) (few_crosses s.size d f)

pub exchanged-requires-2-clause-inside : goal.exchanged-requires-2-clause-inside
exchanged-requires-2-clause-inside c =
    let s = c.self.inside in
    let d = c.args.self.now in
    let f = few s.size s.crosses s.rings d c.self.view_is c.self.invariant in
    subst (λ zs. All (λ r. r < s.size) zs) (sym (rings_are s.size s.crosses s.rings d c.self.view_is)) (few_rings s.size d f)

pub invariant_of-result : goal.invariant_of-result
invariant_of-result c =
    let s = c.self.inside in
    let d = c.args.self.now in
    let f = few s.size s.crosses s.rings d c.self.view_is c.self.invariant in
    (short_from (rows_exchanged c.args.row d) s.size c.exchanged.result c.exchanged-2.result (rows_exchanged-grid c.args.row d f.grid c.requires.row)
    (length-map d.x (exchanged c.args.row) ∙ f.columns) f.most
    (c.exchanged.ensures ∙ ap₂ (λ zs (z : ℕ). short_number (map (exchanged z) zs)) (crosses_are s.size s.crosses s.rings d c.self.view_is) c.from-first.ensures)
    (c.exchanged-2.ensures ∙ ap₂ (λ zs (z : ℕ). short_number (map (exchanged z) zs)) (rings_are s.size s.crosses s.rings d c.self.view_is) c.from-first.ensures)).1

pub returns : goal.returns
returns c =
    let s = c.self.inside in
    let d = c.args.self.now in
    let f = few s.size s.crosses s.rings d c.self.view_is c.self.invariant in
    (short_from (rows_exchanged c.args.row d) s.size c.exchanged.result c.exchanged-2.result (rows_exchanged-grid c.args.row d f.grid c.requires.row)
    (length-map d.x (exchanged c.args.row) ∙ f.columns) f.most
    (c.exchanged.ensures ∙ ap₂ (λ zs (z : ℕ). short_number (map (exchanged z) zs)) (crosses_are s.size s.crosses s.rings d c.self.view_is) c.from-first.ensures)
    (c.exchanged-2.ensures ∙ ap₂ (λ zs (z : ℕ). short_number (map (exchanged z) zs)) (rings_are s.size s.crosses s.rings d c.self.view_is) c.from-first.ensures)).0
