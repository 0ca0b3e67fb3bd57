use Rattle.std.proofs.Common.{arith, refl}
use Rattle.grid_canon.specs.Digits.{short_number}
use Rattle.grid_keys.specs.Cornered.{cornered}
use Rattle.grid_canon.proofs.CutNumbers.{few, before_by_less, before_by_more, before_by_rings}
use Rattle.grid_canon.proofs.short_grid.ShortGrid.comes_before.Goals as goal

pub returns-then-near-far : goal.returns-then-near-far
returns-then-near-far c =
    let s = c.self.inside in
    let d = c.args.self.now in
    let f = few s.size s.crosses s.rings d c.self.view_is c.self.invariant in
    before_by_more s.size c.args.near.now.column c.args.far.now.column c.args.near.now.row c.args.far.now.row c.args.near.now.crosses c.args.far.now.crosses
    d f c.requires.near c.requires.far (omega arith)

pub returns-then-near-far-2 : goal.returns-then-near-far-2
returns-then-near-far-2 c =
    let s = c.self.inside in
    let d = c.args.self.now in
    let f = few s.size s.crosses s.rings d c.self.view_is c.self.invariant in
    before_by_less s.size c.args.near.now.column c.args.far.now.column c.args.near.now.row c.args.far.now.row c.args.near.now.crosses c.args.far.now.crosses
    d f c.requires.near c.requires.far (omega arith)

pub returns-else-near-far-2 : goal.returns-else-near-far-2
returns-else-near-far-2 c =
    let s = c.self.inside in
    let d = c.args.self.now in
    let f = few s.size s.crosses s.rings d c.self.view_is c.self.invariant in
    rw c.rings_come_before.ensures (before_by_rings s.size c.args.near.now.column c.args.far.now.column c.args.near.now.row c.args.far.now.row
    c.args.near.now.crosses c.args.far.now.crosses (short_number (cornered d c.args.near.now.column).o)
    (short_number (cornered d c.args.far.now.column).o) d f c.requires.near c.requires.far (omega arith) refl refl)
