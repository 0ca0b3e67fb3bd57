-- The columns of a grid in the making, from left to right. A column begins with an X, and is open until it ends with an O.
use Rattle.std.specs.Prelude.{◌≡◌, ◌<◌, ℕ, ◌+◌, ◌-◌, ◌==◌, Bool, true, length, take, slice_index_or, List, [], ◌∷◌, ◌++◌, map, filter, Some, None, is_none}
use Rattle.std.specs.Prelude.{unwrap_or, if◌then◌else◌}
use Rattle.grid_core.specs.Diagram.{Diagram}
use Rattle.braid_closure.specs.declared.columns.Column.{Column}

-- a column that begins with an X in row r
abbrev pub begun : ℕ → Column
begun r = record { x = r; o = None }

-- the column, ended with an O in row r
abbrev pub ended : ℕ → Column → Column
ended r c = record { x = c.x; o = Some r }

abbrev pub is_open : Column → Bool
is_open c = is_none c.o

abbrev pub open_columns : List Column → List Column
open_columns columns = filter is_open columns

-- the columns with a change at the open column of position k, counted from 1 from the left
abbrev pub at_position : ℕ → (Column → List Column) → List Column → List Column
at_position k change [] = []
at_position k change (c ∷ columns) =
    if is_open c then (if k == 1 then change c ++ columns else c ∷ at_position (k - 1) change columns)
    else c ∷ at_position k change columns

-- the open column of position k stands at this place of the list; only private clauses cite this
pub record ColumnStandsAt (k place : ℕ) (columns : List Column) (d : Column) : Type 0 where
  pub inside : place < length columns
  pub stands_open : is_open (slice_index_or columns place d) ≡ true
  pub before : length (open_columns (take place columns)) + 1 ≡ k

-- the diagram of columns that have all ended
abbrev pub diagram_of : List Column → Diagram
diagram_of columns = record { x = map (λ (c : Column). c.x) columns; o = map (λ (c : Column). unwrap_or c.o 0) columns }
