-- The parts of a grid diagram.
use Rattle.std.specs.Prelude.{◌==◌, ◌&&◌, ℕ, Bool, List, count_by, map, nat_lt}
use Rattle.std.specs.List.{position_or_len, range_with_len}
use Rattle.grid_core.specs.declared.mark.Kind.{Kind}
use Rattle.grid_core.specs.declared.mark.Kind.TheVariants.{Cross, Ring}
use Rattle.grid_core.specs.declared.span.Span.{Span}
use Rattle.grid_core.specs.Diagram.{Diagram, size, rows_of, row_of}
use Rattle.grid_core.specs.Span.{span, lies_within}

-- the column of the mark of this kind in row r, and the size where the row has none
abbrev pub column_of : Kind → Diagram → ℕ → ℕ
column_of kind d r = position_or_len (λ s. s == r) (rows_of kind d)

-- the interval of rows between the two marks of column c
abbrev pub column_span : Diagram → ℕ → Span
column_span d c = span (row_of Cross d c) (row_of Ring d c)

-- the ends of row r: the columns of its two marks, with the interval of columns between them
abbrev pub ends : Diagram → ℕ → Span
ends d r = span (column_of Cross d r) (column_of Ring d r)

-- by column, the row of the lower mark and that of the higher one
abbrev pub column_lows : Diagram → List ℕ
column_lows d = map (λ c. (column_span d c).low) (range_with_len 0 (size d))

abbrev pub column_highs : Diagram → List ℕ
column_highs d = map (λ c. (column_span d c).high) (range_with_len 0 (size d))

-- by row, the column of the left mark and that of the right one
abbrev pub row_lows : Diagram → List ℕ
row_lows d = map (λ r. (ends d r).low) (range_with_len 0 (size d))

abbrev pub row_highs : Diagram → List ℕ
row_highs d = map (λ r. (ends d r).high) (range_with_len 0 (size d))

-- column c covers row r: the row lies strictly between the column's two marks
abbrev pub covers : Diagram → ℕ → ℕ → Bool
covers d c r = lies_within (column_span d c) r

-- column c is up: its X lies below its O
abbrev pub is_up : Diagram → ℕ → Bool
is_up d c = nat_lt (row_of Cross d c) (row_of Ring d c)

-- row r runs to the right: its O lies left of its X
abbrev pub is_rightward : Diagram → ℕ → Bool
is_rightward d r = nat_lt (column_of Ring d r) (column_of Cross d r)

-- row r is a bottom: the lower end of both its columns, that of its X and that of its O
abbrev pub is_bottom : Diagram → ℕ → Bool
is_bottom d r = ((column_span d (column_of Cross d r)).low == r) && ((column_span d (column_of Ring d r)).low == r)

-- the number of bottoms
abbrev pub bottoms : Diagram → ℕ
bottoms d = count_by (λ r. is_bottom d r) (range_with_len 0 (size d))
