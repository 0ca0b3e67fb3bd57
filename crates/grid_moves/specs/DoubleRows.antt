-- The row of a block that has two of its marks, which is put in and taken out; only private clauses and proofs cite this file.
use Rattle.std.specs.Prelude.{◌+◌, ◌-◌, ◌==◌, ℕ, if◌then◌else◌}
use Rattle.grid_core.specs.declared.mark.Kind.{Kind}
use Rattle.grid_core.specs.declared.mark.Kind.TheVariants.{Cross, Ring}
use Rattle.grid_core.specs.declared.mark.Corner.{Corner}
use Rattle.grid_core.specs.Diagram.{Diagram, row_of}
use Rattle.grid_core.specs.Corners.{corner_column}

-- when the mark of the first kind in column c is stabilised, the column of the last kind's mark in the new row
abbrev pub column_in_new_row : ℕ → Kind → Corner → Kind → ℕ
column_in_new_row c Cross corner Cross = c + 1 - corner_column corner
column_in_new_row c Cross corner Ring = c + corner_column corner
column_in_new_row c Ring corner Cross = c + corner_column corner
column_in_new_row c Ring corner Ring = c + 1 - corner_column corner

-- of a block of three marks in columns c and c + 1, the row of two of them
abbrev pub double_row : Diagram → ℕ → ℕ
double_row d c = if row_of Cross d c == row_of Ring d (c + 1) then row_of Cross d c else row_of Ring d c

-- and the column of the mark of this kind in that row
abbrev pub column_in_double_row : Diagram → ℕ → Kind → ℕ
column_in_double_row d c Cross = if row_of Cross d c == row_of Ring d (c + 1) then c else c + 1
column_in_double_row d c Ring = if row_of Cross d c == row_of Ring d (c + 1) then c + 1 else c
