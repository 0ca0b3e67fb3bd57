-- Lines of rows: the names of the edges at crossings, four to a crossing, one crossing or several in a line.
use Rattle.std.specs.Prelude.{ℕ, ◌%◌, ◌==◌, ◌||◌, Bool, not, List, [], ◌∷◌, ◌++◌, codes, filter, length, Result, Ok, Err, nat_lt, if◌then◌else◌}
use Rattle.std.specs.List.{list_any}
use Rattle.std.specs.Str.{bytes_eq}
use Rattle.text_lines.specs.Lines.{NumberedLine, Text, begins}
use Rattle.text_lines.specs.NumberTokens.{number_of}
use Rattle.text_items.specs.declared.fault.TextFault.{TextFault}
use Rattle.text_items.specs.declared.fault.TextFault.TheVariants.{Malformed, Limit}
use Rattle.text_items.specs.Reading.{◌>>=◌, each_token}
use Rattle.text_items.specs.NumberLists.{is_long}
use Rattle.code_rows.specs.declared.code_fault.TheConstants.{MAX_CROSSINGS}
use Rattle.code_rows.specs.declared.row.CodeRow.{CodeRow}

-- the words that stand in front of a crossing, and in front of a code, say nothing
abbrev pub says_something : List ℕ → Bool
says_something token = not (bytes_eq token (codes "X") || bytes_eq token (codes "PD"))

-- all other tokens that are left of a line, as numbers of any size
abbrev pub row_numbers : NumberedLine → Result (List ℕ) TextFault
row_numbers line = each_token number_of line.number (filter says_something line.tokens)

-- four numbers to a row
abbrev pub rows_of_numbers : List ℕ → List CodeRow
rows_of_numbers (a ∷ b ∷ c ∷ d ∷ names) = record { first = a; second = b; third = c; fourth = d } ∷ rows_of_numbers names
rows_of_numbers names = []

-- the rows when line n is read, of which there may be so many, or what is wrong with the line: a limit, then the content
abbrev pub rows_or_fault : ℕ → ℕ → Bool → List CodeRow → Result (List CodeRow) TextFault
rows_or_fault most n has_long rows =
    if has_long || nat_lt MAX_CROSSINGS (length rows) then Err (Limit n)
    else if nat_lt most (length rows) then Err (Malformed n) else Ok rows

-- the rows before, and those of a line: form, limits, content
unfoldable pub with_rows : ℕ → List CodeRow → NumberedLine → Result (List CodeRow) TextFault
with_rows most before line = do
  names ← row_numbers line
  if length names % 4 == 0 then rows_or_fault most line.number (list_any is_long names) (before ++ rows_of_numbers names) else Err (Malformed line.number)

-- a line that stands behind the rows is next
abbrev pub are_behind : Text → Bool
are_behind text = begins (codes "loops") text || begins (codes "gauss") text

-- the rows before, and those of all lines up to the first that stands behind the rows
abbrev pub rows_among : ℕ → List CodeRow → List NumberedLine → ℕ → Result (List CodeRow × Text) TextFault
rows_among most before [] ending = Ok (before, record { lines = []; ending = ending })
rows_among most before (line ∷ lines) ending =
    if are_behind (record { lines = line ∷ lines; ending = ending }) then Ok (before, record { lines = line ∷ lines; ending = ending })
    else with_rows most before line >>= λ rows. rows_among most rows lines ending

-- the rows of the lines that are next in a text, behind what was read before
unfoldable pub rows_from : ℕ → List CodeRow → Text → Result (List CodeRow × Text) TextFault
rows_from most before text = rows_among most before text.lines text.ending
