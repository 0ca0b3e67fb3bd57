-- What is wrong with rows before their strands are directed: there are none, or an edge doesn't stand at two ends.
use Rattle.std.specs.Prelude.{◌≡◌, ◌≢◌, ◌<◌, ◌≤◌, ℕ, ◌==◌, ◌&&◌, List, length, slice_index, count_by, min, fold}
use Rattle.std.specs.Prelude.{Option, Some, None, Result, Ok, Err, if◌then◌else◌}
use Rattle.grid_core.specs.Fault.{or_next}
use Rattle.code_rows.specs.declared.row.CodeRow.{CodeRow}
use Rattle.code_rows.specs.declared.rows_fault.RowsFault.{RowsFault}
use Rattle.code_rows.specs.declared.rows_fault.RowsFault.TheVariants.{Empty, Edge, Direction, Plane}
use Rattle.code_rows.specs.Rows.{all_names}

-- at how many ends a name stands
abbrev pub ends_of : List ℕ → ℕ → ℕ
ends_of all name = count_by (λ m. m == name) all

abbrev pub lesser : Option ℕ → ℕ → Option ℕ
lesser None name = Some name
lesser (Some least) name = Some (min least name)

-- the least name that stands at other than two ends: by a law
abbrev pub least_unpaired : List ℕ → Option ℕ
least_unpaired all = fold (λ least name. if ends_of all name == 2 then least else lesser least name) None all

-- the same, told without an order of the names
pub record IsLeastUnpaired (all : List ℕ) (name : ℕ) : Type 0 where
  pub place : ℕ
  pub within : place < length all
  pub is : slice_index all place ≡ name
  pub unpaired : ends_of all name ≢ 2
  pub least : (k : ℕ) → k < length all → ends_of all (slice_index all k) ≢ 2 → name ≤ slice_index all k

-- no row and no loop, or such a name
abbrev pub unpaired : List CodeRow → ℕ → Option RowsFault
unpaired rows loops =
    if (length rows == 0) && (loops == 0) then Some Empty
    else or_next (least_unpaired (all_names rows)) (λ name. Edge name) None

-- whether an answer is such a fault, and which
abbrev pub as_unpaired : {A : Type 0} → Result A RowsFault → Option RowsFault
as_unpaired (Ok code) = None
as_unpaired (Err Empty) = Some Empty
as_unpaired (Err (Edge name)) = Some (Edge name)
as_unpaired (Err (Direction name)) = None
as_unpaired (Err Plane) = None
