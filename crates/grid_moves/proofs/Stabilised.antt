-- The list form of a stabilisation meets the relation on cells.
use Rattle.std.proofs.Common.{◌≢◌, ◌<◌, ◌≤◌, ◌+◌, ℕ, arith, inl, inr}
use Rattle.grid_core.specs.declared.grid.TheConstants.{MAX_SIZE}
use Rattle.grid_core.specs.declared.mark.Kind.{Kind}
use Rattle.grid_core.specs.declared.mark.Kind.TheVariants.{Cross, Ring}
use Rattle.grid_core.specs.declared.mark.Corner.{Corner}
use Rattle.grid_core.specs.Diagram.{Diagram, IsGrid, size, row_of}
use Rattle.grid_core.specs.Corners.{corner_row}
use Rattle.grid_core.proofs.Marks.{mark_at, row_below}
use Rattle.grid_moves.specs.declared.step.Move.TheVariants.{Stabilise}
use Rattle.grid_moves.specs.DoubleRows.{column_in_new_row}
use Rattle.grid_moves.specs.Step.{Step}
use Rattle.grid_moves.proofs.Widened.{Widened, place_near, right_small, above_small, stabilises_from_widened}
use Rattle.grid_moves.proofs.WidenedGrids.{Beside, widened_at, widened-widened, widened-lengths, widened_grid}

columns_in_new_row_apart : (c : ℕ) (kind : Kind) (corner : Corner) → column_in_new_row c kind corner Cross ≢ column_in_new_row c kind corner Ring
columns_in_new_row_apart c Cross corner e = absurd (omega (arith, right_small corner, e))
columns_in_new_row_apart c Ring corner e = absurd (omega (arith, right_small corner, e))

pub columns_in_new_row-beside : (c : ℕ) (kind : Kind) (corner : Corner) → Beside c (column_in_new_row c kind corner)
columns_in_new_row-beside c kind corner = record { near = place_near c kind corner; apart = columns_in_new_row_apart c kind corner }

pub column_in_new_row-le : (c : ℕ) (kind : Kind) (corner : Corner) (k : Kind) (n : ℕ) → c < n → column_in_new_row c kind corner k ≤ n
column_in_new_row-le c kind corner k n lt = elim (place_near c kind corner k) [ inl is ↦ omega (arith, is, lt) | inr is ↦ omega (arith, is, lt) ]

-- the diagram as lists
abbrev pub stabilised : ℕ → Kind → Corner → Diagram → Diagram
stabilised c kind corner d = widened_at (column_in_new_row c kind corner) (row_of kind d c + corner_row corner) d

pub stabilised-widened : (c : ℕ) (kind : Kind) (corner : Corner) (d : Diagram) → IsGrid d → c < size d
    → Widened (column_in_new_row c kind corner) (row_of kind d c + corner_row corner) d (stabilised c kind corner d)
stabilised-widened c kind corner d grid lt =
    widened-widened (column_in_new_row c kind corner) (row_of kind d c + corner_row corner) d grid (λ k. column_in_new_row-le c kind corner k (size d) lt)

pub stabilised-grid : (c : ℕ) (kind : Kind) (corner : Corner) (d : Diagram) → IsGrid d → c < size d → size d < MAX_SIZE → IsGrid (stabilised c kind corner d)
stabilised-grid c kind corner d grid lt room =
    widened_grid c (column_in_new_row c kind corner) (row_of kind d c + corner_row corner) d (stabilised c kind corner d)
    (columns_in_new_row-beside c kind corner) lt
    (omega (arith, row_below d grid kind c lt, above_small corner)) room grid
    (widened-lengths (column_in_new_row c kind corner) (row_of kind d c + corner_row corner) d grid (λ k. column_in_new_row-le c kind corner k (size d) lt))
    (stabilised-widened c kind corner d grid lt)

pub stabilised-step : (c : ℕ) (kind : Kind) (corner : Corner) (d : Diagram) → IsGrid d → c < size d → size d < MAX_SIZE
    → Step d (Stabilise c kind corner) (stabilised c kind corner d)
stabilised-step c kind corner d grid lt room = record {
  before = grid;
  after = stabilised-grid c kind corner d grid lt room;
  marks = (
    room,
    (
      row_of kind d c,
      stabilises_from_widened c kind corner (row_of kind d c) d (stabilised c kind corner d) grid (mark_at d kind c lt)
          (stabilised-widened c kind corner d grid lt),
    ),
  );
}
