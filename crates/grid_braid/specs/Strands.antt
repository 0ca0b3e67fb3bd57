-- A grid diagram (Cromwell 1995) seen as a braid:
-- each down column is replaced by its complement, which runs upward from its X over the top and from the bottom to its O.
-- Height h lies directly below row h: height 0 lies below all rows, and the size above them.
use Rattle.std.specs.Prelude.{ℕ, ◌+◌, ◌-◌, Bool, not, List, filter, nat_lt, nat_le, if◌then◌else◌}
use Rattle.std.specs.List.{range_with_len}
use Rattle.grid_core.specs.declared.mark.Kind.TheVariants.{Ring}
use Rattle.grid_core.specs.Diagram.{Diagram, size}
use Rattle.grid_core.specs.Span.{crosses_height}
use Rattle.grid_core.specs.Parts.{column_of, column_span, is_up, ends}

-- a strand runs in column c at height h: the column is up and cut there, or down and not cut there
abbrev pub is_strand : Diagram → ℕ → ℕ → Bool
is_strand d h c = if is_up d c then crosses_height (column_span d c) h else not (crosses_height (column_span d c) h)

-- the columns of the strands at height h, from left to right, from the first number up to, but without, the second
abbrev pub strands_within : Diagram → ℕ → ℕ → ℕ → List ℕ
strands_within d h from to = filter (is_strand d h) (range_with_len from (to - from))

-- the columns of all strands at height h, from left to right
abbrev pub strands_at : Diagram → ℕ → List ℕ
strands_at d h = strands_within d h 0 (size d)

-- the down columns, which are the strands below all rows
abbrev pub down_columns : Diagram → List ℕ
down_columns d = filter (λ c. not (is_up d c)) (range_with_len 0 (size d))

-- the strands to the left of the one that arrives at the O of row r, directly below the row
abbrev pub strands_ahead : Diagram → ℕ → List ℕ
strands_ahead d r = strands_within d r 0 (column_of Ring d r)

-- the strands strictly between the ends of row r
abbrev pub strands_between : Diagram → ℕ → List ℕ
strands_between d r = strands_within d r ((ends d r).low + 1) (ends d r).high
