-- A quandle as a text: `quandle` and its name, and behind `table n` the n lines of its table.
use Rattle.std.specs.Prelude.{ℕ, zero, suc, ◌-◌, ◌||◌, Bool, false, List, [], ◌∷◌, ◌++◌, codes, Option, None, Result, Ok, Err, is_none}
use Rattle.std.specs.Prelude.{nat_le, nat_lt, if◌then◌else◌}
use Rattle.std.specs.Str.{bytes_eq}
use Rattle.quandle_core.specs.declared.quandle.TheConstants.{MAX_ORDER}
use Rattle.quandle_core.specs.Fault.{first_fault_within}
use Rattle.quandle_core.specs.Tables.{trivial, dihedral, tetrahedral}
use Rattle.text_lines.specs.Lines.{NumberedLine, Text, begins}
use Rattle.text_items.specs.declared.fault.TextFault.{TextFault}
use Rattle.text_items.specs.declared.fault.TextFault.TheVariants.{Malformed, Limit}
use Rattle.quandle_core.specs.declared.names.QuandleName.TheVariants as name
use Rattle.text_items.specs.declared.quandles.Written.{Written}
use Rattle.text_items.specs.declared.quandles.Written.TheVariants as written
use Rattle.quandle_core.specs.Names.{NamedQuandle, called, quandle_named}
use Rattle.text_items.specs.declared.quandles.TheConstants.{MAX_QUANDLES}
use Rattle.text_items.specs.Reading.{◌>>=◌, next_line, next_token, line_end, word, number, last_number, or_malformed}
use Rattle.text_items.specs.NumberLists.{is_long}
use Rattle.text_items.specs.Numbers.{numbers_below}

-- ---- the form of a name, with numbers of any size

-- the order at the end of a line, and the name that is made of it
abbrev pub with_order : (ℕ → Written) → NumberedLine → Result (Written × NumberedLine) TextFault
with_order make line = do
  order ← last_number line
  Ok (make order.0, order.1)

-- the order and the factor of an Alexander quandle, at the end of a line
unfoldable pub alexander_at : NumberedLine → Result (Written × NumberedLine) TextFault
alexander_at line = do
  order ← number line
  factor ← last_number order.1
  Ok (written.Alexander order.0 factor.0, factor.1)

-- the end of the line of the tetrahedral quandle
unfoldable pub tetrahedral_at : NumberedLine → Result (Written × NumberedLine) TextFault
tetrahedral_at line = do
  end ← line_end line
  Ok (written.Tetrahedral, end)

-- a family and its numbers, at the end of a line
unfoldable pub written_at : NumberedLine → Result (Written × NumberedLine) TextFault
written_at line = do
  family ← next_token line
  if bytes_eq family.0 (codes "trivial") then with_order (λ n. written.Trivial n) family.1
      else if bytes_eq family.0 (codes "dihedral") then with_order (λ n. written.Dihedral n) family.1
      else if bytes_eq family.0 (codes "tetrahedral") then tetrahedral_at family.1
      else if bytes_eq family.0 (codes "alexander") then alexander_at family.1
      else if bytes_eq family.0 (codes "table") then with_order (λ n. written.Table n) family.1
      else Err (Malformed family.1.number)

-- ---- its limits

-- an order above MAX_ORDER, that of a table above the first number, or a factor of too many digits
abbrev pub is_over : ℕ → Written → Bool
is_over most (written.Trivial n) = nat_lt MAX_ORDER n
is_over most (written.Dihedral n) = nat_lt MAX_ORDER n
is_over most written.Tetrahedral = false
is_over most (written.Alexander n a) = nat_lt MAX_ORDER n || is_long a
is_over most (written.Table n) = nat_lt most n

-- ---- its content

-- the quandle of a name without a table: the order is at least 1, and a factor lies below the order and has an inverse
abbrev pub meant : Written → Option NamedQuandle
meant (written.Trivial n) = quandle_named (name.Trivial n)
meant (written.Dihedral n) = quandle_named (name.Dihedral n)
meant written.Tetrahedral = quandle_named name.Tetrahedral
meant (written.Alexander n a) = if nat_lt a n then quandle_named (name.Alexander n a) else None
meant (written.Table n) = None

-- a line of a square table of numbers below a bound, as many as the order
unfoldable pub table_row : ℕ → ℕ → Text → Result (List ℕ × Text) TextFault
table_row order bound text = do
  line ← next_line text
  row ← numbers_below order bound line.0
  Ok (row, line.1)

-- the entries of so many lines
unfoldable pub table_rows : ℕ → ℕ → ℕ → Text → Result (List ℕ × Text) TextFault
table_rows order bound zero text = Ok ([], text)
table_rows order bound (suc count) text = do
  row ← table_row order bound text
  rows ← table_rows order bound count row.1
  Ok (row.0 ++ rows.0, rows.1)

-- the lines of a table, row x of which has the numbers x ▷ 0 to x ▷ n-1; one that fails a law of quandles is malformed at its last line
unfoldable pub table_item : ℕ → Text → Result (NamedQuandle × Text) TextFault
table_item order text = do
  front ← table_rows order order (order - 1) text
  line ← next_line front.1
  row ← numbers_below order order line.0
  if is_none (first_fault_within order (record { order = order; entries = front.0 ++ row }))
      then Ok (called name.Table (record { order = order; entries = front.0 ++ row }), line.1)
      else Err (Malformed line.0.number)

-- what a name in line n means, with the lines behind it that a table takes
abbrev pub quandle_of : ℕ → Written → Text → Result (NamedQuandle × Text) TextFault
quandle_of n (written.Table order) text = if nat_le 1 order then table_item order text else Err (Malformed n)
quandle_of n w text = do
  quandle ← or_malformed n (meant w)
  Ok (quandle, text)

-- its limits, and then what it means. The order of a table is at most the first number
abbrev pub judged : ℕ → ℕ → Written → Text → Result (NamedQuandle × Text) TextFault
judged most n w text = if is_over most w then Err (Limit n) else quandle_of n w text

-- a name at the end of a line: form, limits, content
unfoldable pub quandle_at : ℕ → NumberedLine → Text → Result (NamedQuandle × Text) TextFault
quandle_at most line text = do
  name ← written_at line
  judged most name.1.number name.0 text

-- ---- the item, and a list of items

-- `quandle` and a name, with the lines behind it that a table takes
unfoldable pub quandle_item : Text → Result (NamedQuandle × Text) TextFault
quandle_item text = do
  line ← next_line text
  rest ← word (codes "quandle") line.0
  quandle_at MAX_ORDER rest line.1

-- `quandle` and a name, with the lines behind it that a table takes, which has at most the first number of colours
unfoldable pub large_quandle_item : ℕ → Text → Result (NamedQuandle × Text) TextFault
large_quandle_item most text = do
  line ← next_line text
  rest ← word (codes "quandle") line.0
  quandle_at most rest line.1

-- one quandle more than a text may have: its form is tried before the limit
unfoldable pub surplus_quandle : Text → Result (List NamedQuandle × Text) TextFault
surplus_quandle text = do
  line ← next_line text
  rest ← word (codes "quandle") line.0
  name ← written_at rest
  Err (Limit name.1.number)

-- all quandles up to the first line that does not begin with `quandle`, of which there may be so many
unfoldable pub quandles : ℕ → Text → Result (List NamedQuandle × Text) TextFault
quandles zero text = if begins (codes "quandle") text then surplus_quandle text else Ok ([], text)
quandles (suc room) text = if begins (codes "quandle") text then (do
  first ← quandle_item text
  others ← quandles room first.1
  Ok (first.0 ∷ others.0, others.1)) else Ok ([], text)

-- the quandles that stand for an empty list
abbrev pub built_in : List NamedQuandle
built_in =
    called (name.Trivial 2) (trivial 2) ∷ called (name.Dihedral 3) (dihedral 3) ∷ called name.Tetrahedral tetrahedral ∷
    called (name.Dihedral 5) (dihedral 5) ∷ called (name.Dihedral 7) (dihedral 7) ∷ []

-- the listed quandles, or the built-in list where there are none
abbrev pub or_built_in : List NamedQuandle → List NamedQuandle
or_built_in [] = built_in
or_built_in (quandle ∷ quandles) = quandle ∷ quandles

-- at most MAX_QUANDLES quandles, or the built-in list where there are none
unfoldable pub quandle_list : Text → Result (List NamedQuandle × Text) TextFault
quandle_list text = do
  listed ← quandles MAX_QUANDLES text
  Ok (or_built_in listed.0, listed.1)
