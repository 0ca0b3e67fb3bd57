-- A grid as a text: `x` and the rows of its Xs by column, and `o` and those of its Os in the next line.
use Rattle.std.specs.Prelude.{ℕ, ◌&&◌, Bool, not, List, codes, length, Result, Ok, Err, is_none, nat_le, nat_lt, if◌then◌else◌}
use Rattle.std.specs.List.{list_all, list_any, range_with_len}
use Rattle.grid_core.specs.Diagram.{Diagram}
use Rattle.grid_core.specs.Fault.{is_repeated, first_grid_fault}
use Rattle.text_lines.specs.Lines.{NumberedLine, Text}
use Rattle.text_items.specs.declared.fault.TextFault.{TextFault}
use Rattle.text_items.specs.declared.fault.TextFault.TheVariants.{Malformed}
use Rattle.text_items.specs.Reading.{◌>>=◌, next_line}
use Rattle.text_items.specs.Numbers.{numbers_behind}

-- each of the n numbers is below n, and none stands twice
abbrev pub is_one_each : List ℕ → Bool
is_one_each rows =
    list_all (λ r. nat_lt r (length rows)) rows && not (list_any (λ c. is_repeated rows c) (range_with_len 0 (length rows)))

-- two or more numbers, each of 0 to n-1 once
abbrev pub are_rows : List ℕ → Bool
are_rows rows = nat_le 2 (length rows) && is_one_each rows

-- the rows of the Xs
unfoldable pub x_at : NumberedLine → Result (List ℕ) TextFault
x_at line = do
  rows ← numbers_behind (codes "x") line
  if are_rows rows then Ok rows else Err (Malformed line.number)

-- the rows of the Os, which make a grid with those of the Xs: as many, each of 0 to n-1 once, none equal to that of its column
unfoldable pub o_at : List ℕ → NumberedLine → Result Diagram TextFault
o_at x line = do
  rows ← numbers_behind (codes "o") line
  if is_none (first_grid_fault x rows) then Ok (record { x = x; o = rows }) else Err (Malformed line.number)

-- the two lines of a grid
unfoldable pub grid_item : Text → Result (Diagram × Text) TextFault
grid_item text = do
  first ← next_line text
  x ← x_at first.0
  second ← next_line first.1
  grid ← o_at x second.0
  Ok (grid, second.1)
