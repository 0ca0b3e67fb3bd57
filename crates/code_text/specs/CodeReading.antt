-- The whole text of a code: how many crossings there are, rows, how many loops there are, and signed Gauss lines.
use Rattle.std.specs.Prelude.{ℕ, ◌==◌, Bool, true, List, [], ◌∷◌, codes, length, Option, Some, None, Result, Ok, Err, unwrap_or, if◌then◌else◌}
use Rattle.text_lines.specs.Lines.{NumberedLine, Text, text_of, begins}
use Rattle.text_items.specs.declared.fault.TextFault.{TextFault}
use Rattle.text_items.specs.declared.fault.TextFault.TheVariants.{Malformed}
use Rattle.text_items.specs.Reading.{◌>>=◌, next_line, text_end, word, last_number, at_most}
use Rattle.code_rows.specs.declared.code_fault.TheConstants.{MAX_CROSSINGS}
use Rattle.code_rows.specs.declared.row.CodeRow.{CodeRow}
use Rattle.code_text.specs.declared.gauss_lines.GaussPassage.{GaussPassage}
use Rattle.code_text.specs.declared.code_reading.CodeText.{CodeText}
use Rattle.code_text.specs.declared.code_reading.TheConstants.{MAX_LOOPS}
use Rattle.code_text.specs.Blanks.{blanked}
use Rattle.code_text.specs.RowLines.{rows_from}
use Rattle.code_text.specs.GaussLines.{walks_from}

-- a word and a number, alone in a line: form, then its limit
unfoldable pub counted_item : List ℕ → ℕ → Text → Result (ℕ × Text) TextFault
counted_item expected most text = do
  line ← next_line text
  rest ← word expected line.0
  value ← last_number rest
  count ← at_most most value.1.number value.0
  Ok (count, line.1)

-- a number that was read, as one that may lack
abbrev pub some_count : Result (ℕ × Text) TextFault → Result (Option ℕ × Text) TextFault
some_count read = read >>= λ x. Ok (Some x.0, x.1)

-- a word and a number where a line that begins with the word is next, else nothing
unfoldable pub perhaps_counted : List ℕ → ℕ → Text → Result (Option ℕ × Text) TextFault
perhaps_counted expected most text = if begins expected text then some_count (counted_item expected most text) else Ok (None, text)

-- so many rows there may be, where a number was told and where none was
abbrev pub most_rows : Option ℕ → ℕ
most_rows (Some due) = due
most_rows None = MAX_CROSSINGS

-- the line that is next, or where the text ends
abbrev pub next_number : List NumberedLine → ℕ → ℕ
next_number [] ending = ending
next_number (line ∷ lines) ending = line.number

-- there are as many rows as were told
abbrev pub are_due : Option ℕ → List CodeRow → Bool
are_due (Some due) rows = length rows == due
are_due None rows = true

-- the rows, as many as the line `crossings` tells, if it is there
unfoldable pub rows_item : Text → Result (List CodeRow × Text) TextFault
rows_item text = do
  due ← perhaps_counted (codes "crossings") MAX_CROSSINGS text
  rows ← rows_from (most_rows due.0) [] due.1
  if are_due due.0 rows.0 then Ok rows else Err (Malformed (next_number rows.1.lines rows.1.ending))

-- signed Gauss lines stand behind rows alone
abbrev pub walks_behind : List CodeRow → Text → Result (List (List GaussPassage) × Text) TextFault
walks_behind [] text = Ok ([], text)
walks_behind (row ∷ rows) text = walks_from [] text

-- rows, the number of loops and Gauss lines, and nothing behind them
unfoldable pub code_in : Text → Result CodeText TextFault
code_in text = do
  rows ← rows_item text
  loops ← perhaps_counted (codes "loops") MAX_LOOPS rows.1
  walks ← walks_behind rows.0 loops.1
  end ← text_end walks.1
  Ok (record { rows = rows.0; loops = unwrap_or loops.0 0; walks = walks.0 })

-- what a text says of a code, from its bytes
abbrev pub code_text_of : List ℕ → Result CodeText TextFault
code_text_of bytes = code_in (text_of (blanked bytes))
