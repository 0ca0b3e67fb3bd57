-- The colours that each move carries: what becomes of the colours of a diagram's columns when the move is made.
-- A strand that passes under a strand of colour a from that strand's right to its left goes from y to y ▷ a (Joyce 1982).
-- On the page, `passed_rightward` is what y becomes under a column from left to right (for an up column that is from the column's left to its right),
-- and `passed_leftward` the other way.
use Rattle.std.specs.Prelude.{ℕ, zero, suc, ◌+◌, ◌-◌, ◌%◌, ◌==◌, ◌&&◌, Bool, List, map, slice_index, nat_lt, if◌then◌else◌}
use Rattle.std.specs.List.{range_with_len}
use Rattle.grid_core.specs.Diagram.{Diagram, size}
use Rattle.grid_core.specs.Span.{lies_within}
use Rattle.grid_core.specs.Parts.{column_span, ends, is_up}
use Rattle.grid_moves.specs.declared.step.Move.{Move}
use Rattle.grid_moves.specs.declared.step.Move.TheVariants.{ShiftColumns, ShiftRows, ExchangeColumns, ExchangeRows, SlideColumns, SlideRows, Stabilise}
use Rattle.grid_moves.specs.declared.step.Move.TheVariants.{Destabilise}
use Rattle.grid_moves.specs.Shift.{shifted}
use Rattle.quandle_core.specs.Quandle.{Table}
use Rattle.colour_rows.specs.Walk.{passed_rightward, passed_leftward}

-- a colour for each of n columns, from the left
abbrev pub by_column : ℕ → (ℕ → ℕ) → List ℕ
by_column n colour = map colour (range_with_len 0 n)

-- shift of columns by k: column i is the old column i + k, round the circle
abbrev pub columns_shifted : ℕ → Diagram → List ℕ → List ℕ
columns_shifted k d colours = by_column (size d) (λ i. slice_index colours ((i + k) % size d))

-- shift of rows by one: the bottom row's strand moves to the top, over the columns strictly between its ends.
-- The row is one strand with the column of its left end L, so the columns pass under it as under L from right to left. All others keep their colour.
abbrev pub bottom_row_shifted : Table → Diagram → List ℕ → List ℕ
bottom_row_shifted t d colours = by_column (size d) (λ i.
    if lies_within (ends d 0) i then passed_leftward t (is_up d (ends d 0).low) (slice_index colours i) (slice_index colours (ends d 0).low)
    else slice_index colours i)

-- the diagram after the shift of rows by k
abbrev pub after_row_shift : ℕ → Diagram → Diagram
after_row_shift k d = record { x = map (shifted (size d) k) d.x; o = map (shifted (size d) k) d.o }

-- shift of rows by k: k shifts by one, each with the diagram of that moment
abbrev pub rows_shifted : Table → ℕ → Diagram → List ℕ → List ℕ
rows_shifted t zero d colours = colours
rows_shifted t (suc k) d colours = bottom_row_shifted t (after_row_shift k d) (rows_shifted t k d colours)

-- both marks of the inner column lie strictly between those of the outer one
abbrev pub is_nested_in : Diagram → ℕ → ℕ → Bool
is_nested_in d inner outer =
    nat_lt (column_span d outer).low (column_span d inner).low && nat_lt (column_span d inner).high (column_span d outer).high

-- the colour of column c + 1 after it went to the left of column c: where it is the inner one, it passed under
abbrev pub gone_left : Table → Diagram → List ℕ → ℕ → ℕ
gone_left t d colours c =
    if is_nested_in d (c + 1) c then passed_leftward t (is_up d c) (slice_index colours (c + 1)) (slice_index colours c) else slice_index colours (c + 1)

-- the colour of column c after it went to the right of column c + 1: where it is the inner one, it passed under
abbrev pub gone_right : Table → Diagram → List ℕ → ℕ → ℕ
gone_right t d colours c =
    if is_nested_in d c (c + 1) then passed_rightward t (is_up d (c + 1)) (slice_index colours c) (slice_index colours (c + 1)) else slice_index colours c

-- exchange of columns c and c + 1, which trade places with their colours
abbrev pub colours_exchanged : Table → ℕ → Diagram → List ℕ → List ℕ
colours_exchanged t c d colours =
    by_column (size d) (λ i. if i == c then gone_left t d colours c else if i == c + 1 then gone_right t d colours c else slice_index colours i)

-- stabilisation in column c: both columns of the block have the old column's colour
abbrev pub stabilised : ℕ → Diagram → List ℕ → List ℕ
stabilised c d colours = by_column (size d + 1) (λ i. slice_index colours (if nat_lt c i then i - 1 else i))

-- destabilisation at columns c and c + 1: the merged column has their common colour
abbrev pub destabilised : ℕ → Diagram → List ℕ → List ℕ
destabilised c d colours = by_column (size d - 1) (λ i. slice_index colours (if nat_lt c i then i + 1 else i))

-- the colours that a move carries. An exchange of rows leaves every column its colour; so does a slide of rows, and one of columns, of which the two
-- have one colour.
abbrev pub carried : Table → Diagram → Move → List ℕ → List ℕ
carried t d (ShiftColumns k) colours = columns_shifted k d colours
carried t d (ShiftRows k) colours = rows_shifted t k d colours
carried t d (ExchangeColumns c) colours = colours_exchanged t c d colours
carried t d (ExchangeRows r) colours = colours
carried t d (SlideColumns c) colours = colours
carried t d (SlideRows r) colours = colours
carried t d (Stabilise c kind corner) colours = stabilised c d colours
carried t d (Destabilise c r) colours = destabilised c d colours
