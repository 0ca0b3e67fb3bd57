-- A strand followed from cell to cell: along each column from its X to its O, and along each row from its O to its X.
-- A place of it is a cell where it goes along the column, as one that passes over does, or along the row.
use Rattle.std.specs.Prelude.{ℕ, zero, suc, ◌+◌, ◌-◌, ◌==◌, true, false, List, [], ◌∷◌, nat_lt, if◌then◌else◌}
use Rattle.grid_core.specs.declared.mark.Kind.TheVariants.{Cross, Ring}
use Rattle.grid_core.specs.Diagram.{Diagram, row_of}
use Rattle.grid_core.specs.Parts.{column_of}
use Rattle.grid_core.specs.Crossing.{crosses}
use Rattle.crossing_codes.specs.declared.passages.Passage.{Passage}

abbrev pub on_column : ℕ → ℕ → Passage
on_column c r = record { over = true; column = c; row = r }

abbrev pub on_row : ℕ → ℕ → Passage
on_row c r = record { over = false; column = c; row = r }

-- the number that comes next on the way from a to b
abbrev pub toward : ℕ → ℕ → ℕ
toward a b = if nat_lt a b then a + 1 else a - 1

-- the next place: one row nearer to the O of the column, and there into its row; one column nearer to the X of the row, and there into its column
abbrev pub next_place : Diagram → Passage → Passage
next_place d p =
    if p.over then (if p.row == row_of Ring d p.column then on_row p.column p.row else on_column p.column (toward p.row (row_of Ring d p.column)))
    else (if p.column == column_of Cross d p.row then on_column p.column p.row else on_row (toward p.column (column_of Cross d p.row)) p.row)

-- the place k places later
abbrev pub place_after : Diagram → ℕ → Passage → Passage
place_after d zero p = p
place_after d (suc k) p = place_after d k (next_place d p)

-- the crossings at the next k places, as they are met: where the column of the place crosses its row
abbrev pub met_after : Diagram → ℕ → Passage → List Passage
met_after d zero p = []
met_after d (suc k) p =
    if crosses d (next_place d p).column (next_place d p).row then next_place d p ∷ met_after d k (next_place d p)
    else met_after d k (next_place d p)

-- the X of column c, where its strand comes into it
abbrev pub at_cross : Diagram → ℕ → Passage
at_cross d c = on_column c (row_of Cross d c)
