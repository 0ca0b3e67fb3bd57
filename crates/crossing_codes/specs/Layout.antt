-- Tables by row and by cell, and the order in which a loop meets numbers: cited by private clauses and proofs alone.
use Rattle.std.specs.Prelude.{◌≡◌, ◌<◌, ℕ, ◌+◌, ◌-◌, ◌*◌, Bool, List, map, flat_map, length, slice_index, slice_index_or, if◌then◌else◌}
use Rattle.std.specs.List.{range_with_len}
use Rattle.grid_core.specs.declared.grid.TheConstants.{MAX_SIZE}
use Rattle.grid_core.specs.declared.mark.Kind.{Kind}
use Rattle.grid_core.specs.declared.span.Span.{Span}
use Rattle.grid_core.specs.Diagram.{Diagram, size}
use Rattle.grid_core.specs.Parts.{column_of}
use Rattle.colour_rows.specs.Walk.{passed}
use Rattle.crossing_codes.specs.declared.passages.Passage.{Passage}
use Rattle.crossing_codes.specs.Passages.{Crossed}
use Rattle.crossing_codes.specs.Printed.{crossing_number}
use Rattle.crossing_codes.specs.declared.layout.TheConstants.{MAX_CELLS}

-- a table of the columns of the marks of one kind, by row
abbrev pub HasColumns : Kind → Diagram → List ℕ → Type 0
HasColumns kind d columns = (r : ℕ) → r < size d → slice_index columns r ≡ column_of kind d r

-- the place of a cell in a table by row and column
abbrev pub cell_place : ℕ → ℕ → ℕ
cell_place c r = r * MAX_SIZE + c

-- the slot of a passage in a table of the passages under and then of those over
abbrev pub slot : Passage → ℕ
slot p = if p.over then MAX_CELLS + cell_place p.column p.row else cell_place p.column p.row

-- a table that has in the slot of each passage its number in the list
abbrev pub HasNumbers : List Passage → List ℕ → Type 0
HasNumbers ps table = (i : ℕ) (p : Passage) → i < length ps → slice_index_or ps i p ≡ p → slice_index table (slot p) ≡ i

-- the number strictly within an interval that one meets after so many others, on the way up or on the way down
abbrev pub met_at : Bool → Span → ℕ → ℕ
met_at forward s done = if forward then s.low + 1 + done else s.high - 1 - done

-- the crossings in the lowest n rows
abbrev pub crossings_below : Diagram → ℕ → List Crossed
crossings_below d n = flat_map (λ r. map (λ c. record { column = c; row = r }) (passed d r)) (range_with_len 0 n)

-- a table that has at each cell of the list its number, from 1
abbrev pub IsNumbered : List Crossed → List ℕ → Type 0
IsNumbered cells table = (i : ℕ) (at : Crossed) → i < length cells → slice_index_or cells i at ≡ at → slice_index table (cell_place at.column at.row) ≡ i + 1

-- a table that has at the cell of a passage the number of its crossing
abbrev pub HasCrossingNumber : Diagram → List ℕ → Passage → Type 0
HasCrossingNumber d table p = slice_index table (cell_place p.column p.row) ≡ crossing_number d p.column p.row
