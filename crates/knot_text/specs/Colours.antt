-- The colours of a replay as a text: a quandle, and behind it `colours` and a number for each column, in one line.
use Rattle.std.specs.Prelude.{ℕ, codes, Option, Some, None, Result, Ok, Err, if◌then◌else◌}
use Rattle.arrayvec.specs.ArrayVec.{ArrayVec}
use Rattle.colour_rows.specs.Colouring.{are_colours}
use Rattle.text_lines.specs.Lines.{NumberedLine, Text, begins}
use Rattle.text_items.specs.declared.fault.TextFault.{TextFault}
use Rattle.text_items.specs.declared.fault.TextFault.TheVariants.{Malformed}
use Rattle.quandle_core.specs.Names.{NamedQuandle}
use Rattle.text_items.specs.Reading.{◌>>=◌, next_line}
use Rattle.text_items.specs.Numbers.{numbers_behind}
use Rattle.text_items.specs.Quandles.{quandle_item}

-- `colours`, and a colour below the order for each of so many columns
unfoldable pub colours_at : ℕ → ℕ → NumberedLine → Result (ArrayVec ℕ) TextFault
colours_at width order line = do
  colours ← numbers_behind (codes "colours") line
  if are_colours width order colours then Ok (record { items = colours }) else Err (Malformed line.number)

-- the next line, as that of the colours
unfoldable pub colours_item : ℕ → ℕ → Text → Result (ArrayVec ℕ × Text) TextFault
colours_item width order text = do
  line ← next_line text
  colours ← colours_at width order line.0
  Ok (colours, line.1)

-- a quandle, and colours below its order for so many columns
unfoldable pub coloured_item : ℕ → Text → Result ((NamedQuandle × ArrayVec ℕ) × Text) TextFault
coloured_item width text = do
  quandle ← quandle_item text
  colours ← colours_item width quandle.0.table.order quandle.1
  Ok ((quandle.0, colours.0), colours.1)

-- a quandle and colours, as what may lack
abbrev pub some_coloured : ℕ → Text → Result (Option (NamedQuandle × ArrayVec ℕ) × Text) TextFault
some_coloured width text = do
  item ← coloured_item width text
  Ok (Some item.0, item.1)

-- a quandle and colours where a line that begins with `quandle` is next, else nothing
unfoldable pub coloured : ℕ → Text → Result (Option (NamedQuandle × ArrayVec ℕ) × Text) TextFault
coloured width text = if begins (codes "quandle") text then some_coloured width text else Ok (None, text)
