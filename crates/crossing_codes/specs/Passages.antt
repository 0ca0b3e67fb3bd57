-- Crossings, and the passages through them as one follows the strands.
use Rattle.std.specs.Prelude.{ℕ, ◌+◌, ◌-◌, Bool, true, false, List, ◌++◌, map, filter, flat_map, reverse, if◌then◌else◌}
use Rattle.std.specs.List.{range_with_len}
use Rattle.grid_core.specs.declared.mark.Kind.TheVariants.{Ring}
use Rattle.grid_core.specs.Diagram.{Diagram, size, row_of}
use Rattle.grid_core.specs.Span.{lies_within}
use Rattle.grid_core.specs.Parts.{column_span, ends, is_up, is_rightward}
use Rattle.colour_rows.specs.Walk.{passed}
use Rattle.crossing_codes.specs.declared.passages.Passage.{Passage}
use Rattle.crossing_codes.specs.Components.{component, component_starts}

-- where a column passes over a row: the column covers the row, and lies strictly between the row's ends
pub record Crossed : Type 0 where
  pub column : ℕ
  pub row : ℕ

-- all crossings, by row from the lowest, and in a row by column from the left
abbrev pub crossings : Diagram → List Crossed
crossings d = flat_map (λ r. map (λ c. record { column = c; row = r }) (passed d r)) (range_with_len 0 (size d))

-- the passage over, or under, at a crossing
abbrev pub through : Bool → Crossed → Passage
through over at = record { over = over; column = at.column; row = at.row }

-- the rows that column c passes over, from below: those strictly between its marks whose ends lie on either side of it
abbrev pub passed_over : Diagram → ℕ → List ℕ
passed_over d c = filter (λ r. lies_within (ends d r) c) (range_with_len ((column_span d c).low + 1) ((column_span d c).high - (column_span d c).low - 1))

-- numbers as they are met when one goes up or to the right, or the other way
abbrev pub as_met : Bool → List ℕ → List ℕ
as_met forward numbers = if forward then numbers else reverse numbers

-- the passages along column c from its X to its O, over each row that it crosses
abbrev pub along_column : Diagram → ℕ → List Passage
along_column d c = map (λ r. record { over = true; column = c; row = r }) (as_met (is_up d c) (passed_over d c))

-- the passages along row r from its O to its X, under each column that crosses it
abbrev pub along_row : Diagram → ℕ → List Passage
along_row d r = map (λ c. record { over = false; column = c; row = r }) (as_met (is_rightward d r) (passed d r))

-- the passages along column c and on along the row of its O
abbrev pub along : Diagram → ℕ → List Passage
along d c = along_column d c ++ along_row d (row_of Ring d c)

-- the passages of the component of column c, followed from the X of c
abbrev pub passages_from : Diagram → ℕ → List Passage
passages_from d c = flat_map (along d) (component d c)

-- the passages of all components in order, each followed from the X of its least column
abbrev pub passages : Diagram → List Passage
passages d = flat_map (passages_from d) (component_starts d)
