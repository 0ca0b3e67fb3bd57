use Rattle.std.proofs.Common.{◌≡◌, ◌<◌, ℕ, length}
use Rattle.std.specs.Prelude.{slice_index}
use Rattle.grid_core.specs.declared.grid.TheConstants.{MAX_SIZE}
use Rattle.grid_core.specs.Diagram.{size}
use Rattle.grid_core.specs.Parts.{column_of}
use Rattle.next_moves.proofs.spans.columns_by_row.Given as goal

-- the columns so far stand at the rows of their marks
abbrev pub invariant-loop-c : goal.invariant-loop-c
invariant-loop-c l = record {
  long : length l.columns ≡ MAX_SIZE;
  known : (r : ℕ) → r < size l.grid → column_of l.kind l.grid r < l.c → slice_index l.columns r ≡ column_of l.kind l.grid r;
}
