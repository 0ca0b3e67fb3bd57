use Rattle.grid_canon.specs.LowColumns.{IsCornered}
use Rattle.grid_canon.proofs.LowColumns.{IsLeft}
use Rattle.grid_canon.proofs.short_grid.ShortGrid.least_translate.Given as goal

abbrev pub invariant-loop-marks : goal.invariant-loop-marks
invariant-loop-marks l = record {
  left : IsLeft l.self l.best.column l.marks;
  found : IsCornered l.self l.best.column l.best.row l.best.crosses;
}

abbrev pub decreases-loop-marks : goal.decreases-loop-marks
decreases-loop-marks l = l.marks
