-- Verdicts as a text.
use Rattle.std.specs.Prelude.{ℕ, ◌==◌, List, None, codes, Result, Ok, Err, if◌then◌else◌}
use Rattle.std.specs.Str.{bytes_eq}
use Rattle.arrayvec.specs.ArrayVec.{ArrayVec}
use Rattle.colour_list.specs.declared.limits.TheConstants.{MAX_COLOURINGS}
use Rattle.grid_moves.specs.declared.step.Move.{Move}
use Rattle.quandle_core.specs.declared.quandle.TheConstants.{MAX_ORDER}
use Rattle.text_lines.specs.Lines.{NumberedLine, Text, begins}
use Rattle.text_items.specs.declared.fault.TextFault.{TextFault}
use Rattle.text_items.specs.declared.fault.TextFault.TheVariants.{Malformed}
use Rattle.verdict_core.specs.declared.verdict.Verdict.{Verdict}
use Rattle.verdict_core.specs.declared.verdict.Verdict.TheVariants.{Equal, Different, UnknownBudget, UnknownExhausted}
use Rattle.text_items.specs.declared.reading.TheConstants.{MAX_NUMBER}
use Rattle.verdict_text.specs.declared.verdicts.TheConstants.{TIDY_VERSION}
use Rattle.verdict_text.specs.declared.verdicts.Version.{Version}
use Rattle.verdict_text.specs.declared.verdicts.Version.TheVariants.{Plain, Tidy}
use Rattle.text_items.specs.Reading.{◌>>=◌, in_turn, next_line, next_token, word, number, last_number, last_count, at_most}
use Rattle.text_items.specs.Numbers.{numbers_below}
use Rattle.verdict_text.specs.Moves.{move_lines, tidy_moves}
use Rattle.text_items.specs.Quandles.{quandle_at}

-- so many move lines of a version: of the second one the list is tidy
abbrev pub moves_of : Version → ℕ → Text → Result (List Move × Text) TextFault
moves_of Plain count text = move_lines count text
moves_of Tidy count text = tidy_moves None count text

-- `equal`, a number, and so many move lines
unfoldable pub equal_at : Version → NumberedLine → Text → Result (Verdict × Text) TextFault
equal_at version line text = do
  count ← last_count line
  moves ← moves_of version count text
  Ok (Equal moves.0, moves.1)

-- a line of colours, one below the order for each column
unfoldable pub colour_line : ℕ → ℕ → Text → Result (ArrayVec ℕ × Text) TextFault
colour_line width order text = do
  line ← next_line text
  colours ← numbers_below width order line.0
  Ok (record { items = colours }, line.1)

-- `list`, a number, and so many lines of colours
unfoldable pub list_item : ℕ → ℕ → Text → Result (List (ArrayVec ℕ) × Text) TextFault
list_item width order text = do
  line ← next_line text
  rest ← word (codes "list") line.0
  count ← last_number rest
  few ← at_most MAX_COLOURINGS count.1.number count.0
  in_turn (colour_line width order) few line.1

-- `different`, the name of a quandle, and a list for each of two diagrams with so many columns
unfoldable pub different_at : ℕ → ℕ → NumberedLine → Text → Result (Verdict × Text) TextFault
different_at first second line text = do
  quandle ← quandle_at MAX_ORDER line text
  one ← list_item first quandle.0.table.order quandle.1
  two ← list_item second quandle.0.table.order one.1
  Ok (Different quandle.0 one.0 two.0, two.1)

-- a budget, behind `unknown budget`
unfoldable pub budget_at : NumberedLine → Result Verdict TextFault
budget_at line = do
  budget ← last_count line
  Ok (UnknownBudget budget)

-- a cap and a number of diagrams, behind `unknown exhausted`
unfoldable pub exhausted_at : NumberedLine → Result Verdict TextFault
exhausted_at line = do
  cap ← number line
  admitted ← last_number cap.1
  most ← at_most MAX_NUMBER admitted.1.number cap.0
  entries ← at_most MAX_NUMBER admitted.1.number admitted.0
  Ok (UnknownExhausted most entries)

-- `unknown`, and `budget` with one number or `exhausted` with two
unfoldable pub unknown_at : NumberedLine → Result Verdict TextFault
unknown_at line = do
  cause ← next_token line
  if bytes_eq cause.0 (codes "budget") then budget_at cause.1
      else if bytes_eq cause.0 (codes "exhausted") then exhausted_at cause.1
      else Err (Malformed cause.1.number)

-- a verdict `unknown`, which takes no line behind its own
unfoldable pub unknown_item : NumberedLine → Text → Result (Verdict × Text) TextFault
unknown_item line text = do
  verdict ← unknown_at line
  Ok (verdict, text)

-- a verdict of a version from a line and what stands behind it, on two diagrams with so many columns
abbrev pub verdict_at : Version → ℕ → ℕ → NumberedLine → Text → Result (Verdict × Text) TextFault
verdict_at version first second line text = do
  kind ← next_token line
  if bytes_eq kind.0 (codes "equal") then equal_at version kind.1 text
      else if bytes_eq kind.0 (codes "different") then different_at first second kind.1 text
      else if bytes_eq kind.0 (codes "unknown") then unknown_item kind.1 text
      else Err (Malformed kind.1.number)

-- a verdict of a version, on two diagrams with so many columns
unfoldable pub verdict_of : Version → ℕ → ℕ → Text → Result (Verdict × Text) TextFault
verdict_of version first second text = do
  line ← next_line text
  verdict_at version first second line.0 line.1

-- the line `certificate 2`
unfoldable pub version_at : NumberedLine → Result (Unit {0}) TextFault
version_at line = do
  rest ← word (codes "certificate") line
  version ← last_count rest
  if version == TIDY_VERSION then Ok tt else Err (Malformed line.number)

-- a verdict with its version: of the second one behind its head line, of the first one alone
unfoldable pub tidy_item : ℕ → ℕ → Text → Result ((Version × Verdict) × Text) TextFault
tidy_item first second text = do
  line ← next_line text
  head ← version_at line.0
  verdict ← verdict_of Tidy first second line.1
  Ok ((Tidy, verdict.0), verdict.1)

-- a verdict of the first version, which has no head line
unfoldable pub plain_item : ℕ → ℕ → Text → Result ((Version × Verdict) × Text) TextFault
plain_item first second text = do
  verdict ← verdict_of Plain first second text
  Ok ((Plain, verdict.0), verdict.1)

-- of the second version where a line that begins with `certificate` is next
unfoldable pub versioned_item : ℕ → ℕ → Text → Result ((Version × Verdict) × Text) TextFault
versioned_item first second text = if begins (codes "certificate") text then tidy_item first second text else plain_item first second text

-- a verdict of either version
unfoldable pub verdict_item : ℕ → ℕ → Text → Result (Verdict × Text) TextFault
verdict_item first second text = do
  versioned ← versioned_item first second text
  Ok (versioned.0.1, versioned.1)
