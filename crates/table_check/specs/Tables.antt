-- A table of knots as a text: blocks, classes with their numbers, pairs of classes that are left open, and rows.
use Rattle.std.specs.Prelude.{ℕ, ◌<◌, ◌==◌, ◌&&◌, Bool, false, List, [], ◌∷◌, length, codes, nat_lt, Option, Some, None, Result, Ok, Err, if◌then◌else◌}
use Rattle.std.specs.List.{All}
use Rattle.std.specs.Str.{bytes_eq}
use Rattle.quandle_core.specs.declared.operations.TheConstants.{MAX_LARGE_ORDER}
use Rattle.text_lines.specs.Lines.{NumberedLine, Text, text_of, begins}
use Rattle.text_items.specs.declared.fault.TextFault.{TextFault}
use Rattle.text_items.specs.declared.fault.TextFault.TheVariants.{Malformed}
use Rattle.text_items.specs.declared.quandles.TheConstants.{MAX_QUANDLES}
use Rattle.text_items.specs.declared.reading.TheConstants.{MAX_NUMBER}
use Rattle.text_items.specs.Reading.{◌>>=◌, in_turn, next_line, word, number, last_number, last_count, at_most, text_end}
use Rattle.verdict_text.specs.Diagrams.{diagram_item}
use Rattle.verdict_text.specs.Moves.{moves_item}
use Rattle.evidence_core.specs.declared.blocks.Block.{Block}
use Rattle.number_text.specs.NumberLines.{seeds_at, numbers_line_at}
use Rattle.number_text.specs.EvidenceItems.{count_of}
use Rattle.number_text.specs.Blocks.{block_item}
use Rattle.table_check.specs.declared.class_items.Class.{Class}
use Rattle.table_check.specs.declared.row_items.OpenPair.{OpenPair}
use Rattle.table_check.specs.declared.row_items.KnotRow.{KnotRow}
use Rattle.table_check.specs.declared.tables.KnotTable.{KnotTable}
use Rattle.table_check.specs.declared.tables.TheConstants.{FOURTH_VERSION}

-- a word, and how many items come behind its line
unfoldable pub how_many : List ℕ → Text → Result (ℕ × Text) TextFault
how_many expected text = do
  line ← next_line text
  rest ← word expected line.0
  count ← last_count rest
  Ok (count, line.1)

-- ---- blocks

-- `blocks`, a number of at most MAX_QUANDLES, and so many blocks
unfoldable pub blocks_item : Text → Result (List Block × Text) TextFault
blocks_item text = do
  line ← next_line text
  rest ← word (codes "blocks") line.0
  count ← last_number rest
  few ← at_most MAX_QUANDLES count.1.number count.0
  in_turn (block_item MAX_LARGE_ORDER) few line.1

-- ---- classes

-- `numbers`, and as many numbers as are due
unfoldable pub numbers_item : ℕ → Text → Result (Option (List ℕ) × Text) TextFault
numbers_item due text = do
  line ← next_line text
  list ← numbers_line_at due line.0
  Ok (Some list, line.1)

-- `wide` and a number: nothing is said
unfoldable pub wide_item : Text → Result (Option (List ℕ) × Text) TextFault
wide_item text = do
  line ← next_line text
  rest ← word (codes "wide") line.0
  seeds ← last_count rest
  Ok (None, line.1)

unfoldable pub count_item : ℕ → Text → Result (Option (List ℕ) × Text) TextFault
count_item due text = if begins (codes "wide") text then wide_item text else numbers_item due text

-- one for each block, in their order
unfoldable pub counts_item : List Block → Text → Result (List (Option (List ℕ)) × Text) TextFault
counts_item [] text = Ok ([], text)
counts_item (block ∷ blocks) text = do
  first ← count_item (count_of block.cocycle) text
  others ← counts_item blocks first.1
  Ok (first.0 ∷ others.0, others.1)

-- a diagram, its seeds, and what is said of it by each block
unfoldable pub class_item : List Block → Text → Result (Class × Text) TextFault
class_item blocks text = do
  diagram ← diagram_item text
  line ← next_line diagram.1
  seeds ← seeds_at line.0
  counts ← counts_item blocks line.1
  Ok (record { diagram = diagram.0; seeds = seeds; counts = counts.0 }, counts.1)

-- `classes`, a number, and so many classes
unfoldable pub classes_item : List Block → Text → Result (List Class × Text) TextFault
classes_item blocks text = do
  count ← how_many (codes "classes") text
  in_turn (class_item blocks) count.0 count.1

-- ---- pairs that are left open, where there are so many classes

-- `classes`, and two numbers of classes, the lesser first
unfoldable pub pair_at : ℕ → NumberedLine → Result OpenPair TextFault
pair_at classes line = do
  rest ← word (codes "classes") line
  first ← number rest
  second ← last_number first.1
  low ← at_most MAX_NUMBER second.1.number first.0
  high ← at_most MAX_NUMBER second.1.number second.0
  if nat_lt low high && nat_lt high classes then Ok (record { first = low; second = high }) else Err (Malformed line.number)

unfoldable pub pair_item : ℕ → Text → Result (OpenPair × Text) TextFault
pair_item classes text = do
  line ← next_line text
  pair ← pair_at classes line.0
  Ok (pair, line.1)

-- `open`, a number, and so many pairs
unfoldable pub left_item : ℕ → Text → Result (List OpenPair × Text) TextFault
left_item classes text = do
  count ← how_many (codes "open") text
  in_turn (pair_item classes) count.0 count.1

-- ---- rows, where there are so many classes

-- `class`, and the number of a class
unfoldable pub class_at : ℕ → NumberedLine → Result ℕ TextFault
class_at classes line = do
  rest ← word (codes "class") line
  class ← last_count rest
  if nat_lt class classes then Ok class else Err (Malformed line.number)

-- a diagram, its class, and moves
unfoldable pub row_item : ℕ → Text → Result (KnotRow × Text) TextFault
row_item classes text = do
  diagram ← diagram_item text
  line ← next_line diagram.1
  class ← class_at classes line.0
  moves ← moves_item line.1
  Ok (record { diagram = diagram.0; class = class; moves = moves.0 }, moves.1)

-- `rows`, a number, and so many rows
unfoldable pub knot_rows_item : ℕ → Text → Result (List KnotRow × Text) TextFault
knot_rows_item classes text = do
  count ← how_many (codes "rows") text
  in_turn (row_item classes) count.0 count.1

-- ---- a table

-- the tokens of the line `certificate 4`
abbrev pub is_fourth_line : List (List ℕ) → Bool
is_fourth_line [] = false
is_fourth_line (word ∷ []) = false
is_fourth_line (word ∷ version ∷ []) = bytes_eq word (codes "certificate") && bytes_eq version (codes "4")
is_fourth_line (word ∷ version ∷ token ∷ tokens) = false

abbrev pub starts_table : List NumberedLine → Bool
starts_table [] = false
starts_table (line ∷ lines) = is_fourth_line line.tokens

-- bytes are those of a table, good or bad, where this is their first line
abbrev pub begins_table : List ℕ → Bool
begins_table bytes = starts_table (text_of bytes).lines

unfoldable pub fourth_at : NumberedLine → Result (Unit {0}) TextFault
fourth_at line = do
  rest ← word (codes "certificate") line
  version ← last_count rest
  if version == FOURTH_VERSION then Ok tt else Err (Malformed line.number)

-- the line `certificate 4`, blocks, classes, open pairs and rows, and nothing behind them
unfoldable pub table_in : Text → Result KnotTable TextFault
table_in text = do
  head ← next_line text
  version ← fourth_at head.0
  blocks ← blocks_item head.1
  classes ← classes_item blocks.0 blocks.1
  left ← left_item (length classes.0) classes.1
  rows ← knot_rows_item (length classes.0) left.1
  end ← text_end rows.1
  Ok (record { blocks = blocks.0; classes = classes.0; left = left.0; rows = rows.0 })

abbrev pub knot_table_of : List ℕ → Result KnotTable TextFault
knot_table_of bytes = table_in (text_of bytes)

-- each row has one of the classes of its table
abbrev pub RowsHaveClasses : KnotTable → Type 0
RowsHaveClasses table = All (λ (r : KnotRow). r.class < length table.classes) table.rows
