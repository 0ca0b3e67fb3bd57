-- The faults of two lists of rows by column, case by case.
use Rattle.std.specs.Prelude.{◌≡◌, ◌≢◌, ◌<◌, ◌≤◌, ◌⊎◌, ℕ, length}
use Rattle.grid_core.specs.declared.grid.TheConstants.{MAX_SIZE}
use Rattle.grid_core.specs.declared.mark.Kind.{Kind}
use Rattle.grid_core.specs.declared.mark.Kind.TheVariants.{Cross, Ring}
use Rattle.grid_core.specs.declared.fault.GridFault.{GridFault}
use Rattle.grid_core.specs.declared.fault.GridFault.TheVariants.{Size, Length, Range, Repeat, Same}
use Rattle.grid_core.specs.Diagram.{Diagram, size, row_of}

-- the law fails for this case: a mark of column c lies in no row, or in the row of a mark of its kind further left, or in the
-- cell of the other mark
abbrev pub IsGridFault : Diagram → GridFault → Type 0
IsGridFault d Size = (size d < 2) ⊎ (MAX_SIZE < size d)
IsGridFault d Length = length d.o ≢ length d.x
IsGridFault d (Range c) = (c < size d) × ((kind : Kind) × (size d ≤ row_of kind d c))
IsGridFault d (Repeat c) = (c < size d) × ((kind : Kind) × ((b : ℕ) × ((b < c) × (row_of kind d b ≡ row_of kind d c))))
IsGridFault d (Same c) = (c < size d) × (row_of Cross d c ≡ row_of Ring d c)

abbrev pub grid_rank : GridFault → ℕ
grid_rank Size = 0
grid_rank Length = 1
grid_rank (Range c) = 2
grid_rank (Repeat c) = 3
grid_rank (Same c) = 4

-- the column
abbrev pub grid_number : GridFault → ℕ
grid_number Size = 0
grid_number Length = 0
grid_number (Range c) = c
grid_number (Repeat c) = c
grid_number (Same c) = c
