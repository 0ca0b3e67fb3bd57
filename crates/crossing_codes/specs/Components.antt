-- The components of a link, as the columns through which each strand runs.
-- Columns run from their X to their O and rows from their O to their X (grid diagrams: Cromwell 1995, Dynnikov 2006).
use Rattle.std.specs.Prelude.{ℕ, zero, suc, ◌+◌, ◌==◌, Bool, List, map, filter, nat_le}
use Rattle.std.specs.List.{range_with_len, list_all, position_or_len}
use Rattle.grid_core.specs.declared.mark.Kind.TheVariants.{Cross, Ring}
use Rattle.grid_core.specs.Diagram.{Diagram, size, row_of}
use Rattle.grid_core.specs.Parts.{column_of}

-- the column to which the row of column c's O leads
abbrev pub next_column : Diagram → ℕ → ℕ
next_column d c = column_of Cross d (row_of Ring d c)

-- the column to which the strand through column c has come k columns later
abbrev pub column_after : Diagram → ℕ → ℕ → ℕ
column_after d zero c = c
column_after d (suc k) c = next_column d (column_after d k c)

-- how many columns the component of column c has: after so many the strand is back for the first time
abbrev pub round_length : Diagram → ℕ → ℕ
round_length d c = position_or_len (λ k. column_after d (k + 1) c == c) (range_with_len 0 (size d)) + 1

-- the columns of the component of column c, in the order in which the strand runs through them, from c on
abbrev pub component : Diagram → ℕ → List ℕ
component d c = map (λ k. column_after d k c) (range_with_len 0 (round_length d c))

-- column c is the least of its component
abbrev pub is_least : Diagram → ℕ → Bool
is_least d c = list_all (λ b. nat_le c b) (component d c)

-- the components in order, each by its least column
abbrev pub component_starts : Diagram → List ℕ
component_starts d = filter (is_least d) (range_with_len 0 (size d))
