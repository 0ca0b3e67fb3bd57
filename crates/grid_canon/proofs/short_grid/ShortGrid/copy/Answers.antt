use Rattle.grid_canon.proofs.CutNumbers.{few}
use Rattle.grid_canon.proofs.short_grid.ShortGrid.copy.Goals as goal

pub returns-clause-grid : goal.returns-clause-grid
returns-clause-grid c =
    let s = c.self.inside in
    (few s.size s.crosses s.rings c.args.self.now c.self.view_is c.self.invariant).grid
