-- What the job `check` reads: a table of knots, or a problem and what is said of its two diagrams.
use mathlib.Core.Logic.{inl, inr}
use Rattle.std.specs.Prelude.{◌⊎◌, ℕ, List, Result, Ok, if◌then◌else◌}
use Rattle.text_lines.specs.Lines.{Text, text_of}
use Rattle.text_items.specs.declared.fault.TextFault.{TextFault}
use Rattle.text_items.specs.Reading.{◌>>=◌}
use Rattle.verdict_core.specs.declared.problem.ProblemText.{ProblemText}
use Rattle.number_text.specs.declared.said.Said.{Said}
use Rattle.number_text.specs.Said.{said_in}
use Rattle.table_check.specs.declared.tables.KnotTable.{KnotTable}
use Rattle.table_check.specs.Tables.{starts_table, table_in}

-- a problem and what is said of its diagrams, in the first three versions, or a table, in the fourth
abbrev pub Certificate : Type 0
Certificate = (ProblemText × Said) ⊎ KnotTable

abbrev pub as_pair : Result (ProblemText × Said) TextFault → Result Certificate TextFault
as_pair read = do
  pair ← read
  Ok (inl pair)

abbrev pub as_table : Result KnotTable TextFault → Result Certificate TextFault
as_table read = do
  table ← read
  Ok (inr table)

-- a table where the first line is `certificate 4`, else a problem and what is said of its diagrams
abbrev pub certificate_in : Text → Result Certificate TextFault
certificate_in text = if starts_table text.lines then as_table (table_in text) else as_pair (said_in text)

abbrev pub certificate_of : List ℕ → Result Certificate TextFault
certificate_of bytes = certificate_in (text_of bytes)
