-- Moves as a text: a line each, behind a line with their number.
use Rattle.std.specs.Prelude.{ℕ, zero, suc, List, [], ◌∷◌, Option, Some, None, codes, Result, Ok, Err, if◌then◌else◌}
use Rattle.std.specs.Str.{bytes_eq}
use Rattle.grid_core.specs.declared.mark.Kind.{Kind}
use Rattle.grid_core.specs.declared.mark.Kind.TheVariants.{Cross, Ring}
use Rattle.grid_core.specs.declared.mark.Corner.{Corner}
use Rattle.grid_core.specs.declared.mark.Corner.TheVariants.{LowLeft, LowRight, HighLeft, HighRight}
use Rattle.grid_moves.specs.declared.step.Move.{Move}
use Rattle.grid_moves.specs.declared.step.Move.TheVariants.{ShiftColumns, ShiftRows, ExchangeColumns, ExchangeRows, SlideColumns, SlideRows}
use Rattle.grid_moves.specs.declared.step.Move.TheVariants.{Stabilise, Destabilise}
use Rattle.grid_moves.specs.Tidy.{may_follow}
use Rattle.text_lines.specs.Lines.{NumberedLine, Text}
use Rattle.text_items.specs.declared.fault.TextFault.{TextFault}
use Rattle.text_items.specs.declared.fault.TextFault.TheVariants.{Malformed}
use Rattle.text_items.specs.declared.reading.TheConstants.{MAX_PLACE}
use Rattle.text_items.specs.Reading.{◌>>=◌, in_turn, next_line, next_token, line_end, word, number, last_number, last_count, at_most}

-- the one place of a move that ends its line
unfoldable pub last_place : NumberedLine → Result ℕ TextFault
last_place line = do
  value ← last_number line
  at_most MAX_PLACE value.1.number value.0

-- a move or a step that is told by its word and this place
abbrev pub one_place : {A : Type 0} → (ℕ → A) → NumberedLine → Result A TextFault
one_place make line = do
  place ← last_place line
  Ok (make place)

-- columns or rows, and a place: the first move of columns, the second of rows
abbrev pub on_axis : (ℕ → Move) → (ℕ → Move) → NumberedLine → Result Move TextFault
on_axis columns rows line = do
  axis ← next_token line
  if bytes_eq axis.0 (codes "columns") then one_place columns axis.1
      else if bytes_eq axis.0 (codes "rows") then one_place rows axis.1
      else Err (Malformed axis.1.number)

-- columns or rows, behind `shift`
unfoldable pub shift : NumberedLine → Result Move TextFault
shift line = on_axis (λ k. ShiftColumns k) (λ k. ShiftRows k) line

-- columns or rows, behind `exchange`
unfoldable pub exchange : NumberedLine → Result Move TextFault
exchange line = on_axis (λ c. ExchangeColumns c) (λ r. ExchangeRows r) line

-- columns or rows, behind `slide`
unfoldable pub slide : NumberedLine → Result Move TextFault
slide line = on_axis (λ c. SlideColumns c) (λ r. SlideRows r) line

-- the kind of a mark
unfoldable pub kind_at : NumberedLine → Result (Kind × NumberedLine) TextFault
kind_at line = do
  name ← next_token line
  if bytes_eq name.0 (codes "x") then Ok (Cross, name.1)
      else if bytes_eq name.0 (codes "o") then Ok (Ring, name.1)
      else Err (Malformed name.1.number)

-- a corner of a block
unfoldable pub corner_at : NumberedLine → Result (Corner × NumberedLine) TextFault
corner_at line = do
  name ← next_token line
  if bytes_eq name.0 (codes "lowleft") then Ok (LowLeft, name.1)
      else if bytes_eq name.0 (codes "lowright") then Ok (LowRight, name.1)
      else if bytes_eq name.0 (codes "highleft") then Ok (HighLeft, name.1)
      else if bytes_eq name.0 (codes "highright") then Ok (HighRight, name.1)
      else Err (Malformed name.1.number)

-- a column, a kind of mark and a corner, behind `stabilise`
unfoldable pub stabilise : NumberedLine → Result Move TextFault
stabilise line = do
  column ← number line
  kind ← kind_at column.1
  corner ← corner_at kind.1
  end ← line_end corner.1
  place ← at_most MAX_PLACE end.number column.0
  Ok (Stabilise place kind.0 corner.0)

-- a column and a row, behind `destabilise`
unfoldable pub destabilise : NumberedLine → Result Move TextFault
destabilise line = do
  column ← number line
  row ← last_number column.1
  left ← at_most MAX_PLACE row.1.number column.0
  low ← at_most MAX_PLACE row.1.number row.0
  Ok (Destabilise left low)

-- a move line
unfoldable pub move_at : NumberedLine → Result Move TextFault
move_at line = do
  name ← next_token line
  if bytes_eq name.0 (codes "shift") then shift name.1
      else if bytes_eq name.0 (codes "exchange") then exchange name.1
      else if bytes_eq name.0 (codes "slide") then slide name.1
      else if bytes_eq name.0 (codes "stabilise") then stabilise name.1
      else if bytes_eq name.0 (codes "destabilise") then destabilise name.1
      else Err (Malformed name.1.number)

-- the next move line
unfoldable pub next_move : Text → Result (Move × Text) TextFault
next_move text = do
  line ← next_line text
  move ← move_at line.0
  Ok (move, line.1)

-- so many moves, a line each
abbrev pub move_lines : ℕ → Text → Result (List Move × Text) TextFault
move_lines count text = in_turn next_move count text

-- a move line of a tidy list, which may follow on the move before it; its number comes before that
unfoldable pub tidy_move_at : Option Move → NumberedLine → Result Move TextFault
tidy_move_at before line = do
  move ← move_at line
  if may_follow before move then Ok move else Err (Malformed line.number)

-- the next move line of a tidy list, behind a move or none
unfoldable pub tidy_move : Option Move → Text → Result (Move × Text) TextFault
tidy_move before text = do
  line ← next_line text
  move ← tidy_move_at before line.0
  Ok (move, line.1)

-- so many moves of a tidy list, a line each, behind a move or none
unfoldable pub tidy_moves : Option Move → ℕ → Text → Result (List Move × Text) TextFault
tidy_moves before zero text = Ok ([], text)
tidy_moves before (suc count) text = do
  first ← tidy_move before text
  others ← tidy_moves (Some first.0) count first.1
  Ok (first.0 ∷ others.0, others.1)

-- the item `moves`
unfoldable pub moves_item : Text → Result (List Move × Text) TextFault
moves_item text = do
  line ← next_line text
  rest ← word (codes "moves") line.0
  count ← last_count rest
  move_lines count line.1
