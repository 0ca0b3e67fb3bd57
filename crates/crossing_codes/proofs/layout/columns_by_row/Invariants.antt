use Rattle.std.proofs.Common.{◌≡◌, ◌<◌, ℕ, get_or, length}
use Rattle.grid_core.specs.declared.grid.TheConstants.{MAX_SIZE}
use Rattle.grid_core.specs.Diagram.{row_of}
use Rattle.crossing_codes.proofs.layout.columns_by_row.Given as goal

abbrev pub invariant-loop-column : goal.invariant-loop-column
invariant-loop-column l = record {
  long : length l.columns ≡ MAX_SIZE;
  so_far : (k : ℕ) → k < l.column → get_or l.columns (row_of l.kind l.grid k) 0 ≡ k;
}
