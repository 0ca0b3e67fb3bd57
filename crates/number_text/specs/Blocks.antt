-- Blocks as a text: a quandle item, and perhaps a cocycle of this quandle behind it.
use Rattle.std.specs.Prelude.{ℕ, zero, suc, List, [], ◌∷◌, map, codes, None, Result, Ok, Err, if◌then◌else◌}
use Rattle.quandle_core.specs.declared.operations.TheConstants.{MAX_LARGE_ORDER}
use Rattle.text_lines.specs.Lines.{Text, text_of, begins}
use Rattle.quandle_core.specs.Names.{NamedQuandle}
use Rattle.text_items.specs.declared.fault.TextFault.{TextFault}
use Rattle.text_items.specs.declared.fault.TextFault.TheVariants.{Limit}
use Rattle.text_items.specs.declared.quandles.TheConstants.{MAX_QUANDLES}
use Rattle.text_items.specs.Reading.{◌>>=◌, next_line, text_end, word}
use Rattle.text_items.specs.Quandles.{written_at, large_quandle_item, built_in}
use Rattle.evidence_core.specs.declared.blocks.Block.{Block}
use Rattle.number_text.specs.BlockCocycles.{cocycle_or_none}

-- a quandle, of an order of at most the first number where it is by a table, and perhaps a cocycle of it
unfoldable pub block_item : ℕ → Text → Result (Block × Text) TextFault
block_item most text = do
  quandle ← large_quandle_item most text
  cocycle ← cocycle_or_none quandle.0.table quandle.1
  Ok (record { listed = quandle.0; cocycle = cocycle.0 }, cocycle.1)

-- ---- a list of blocks

-- one block more than a text may have: the form of its first line is tried before the limit
unfoldable pub surplus_block : Text → Result (List Block × Text) TextFault
surplus_block text = do
  line ← next_line text
  rest ← word (codes "quandle") line.0
  name ← written_at rest
  Err (Limit line.0.number)

-- all blocks, up to the first line that follows a block and does not begin with `quandle`; there may be as many as the second number
unfoldable pub listed_blocks : ℕ → ℕ → Text → Result (List Block × Text) TextFault
listed_blocks most zero text = if begins (codes "quandle") text then surplus_block text else Ok ([], text)
listed_blocks most (suc room) text = if begins (codes "quandle") text then (do
  first ← block_item most text
  others ← listed_blocks most room first.1
  Ok (first.0 ∷ others.0, others.1)) else Ok ([], text)

-- a quandle without a cocycle
abbrev pub alone : NamedQuandle → Block
alone quandle = record { listed = quandle; cocycle = None }

-- the blocks, or the built-in quandles, each alone, where there are none
abbrev pub built_in_if_none : List Block → List Block
built_in_if_none [] = map alone built_in
built_in_if_none (block ∷ blocks) = block ∷ blocks

-- the listed blocks, at most MAX_QUANDLES, by tables of orders of at most MAX_LARGE_ORDER, or the built-in quandles where there are none
unfoldable pub blocks_or_built_in : Text → Result (List Block × Text) TextFault
blocks_or_built_in text = do
  listed ← listed_blocks MAX_LARGE_ORDER MAX_QUANDLES text
  Ok (built_in_if_none listed.0, listed.1)

-- ---- a text of blocks alone

-- the blocks, by tables of orders of at most MAX_LARGE_ORDER, and nothing behind them
unfoldable pub blocks_in : Text → Result (List Block) TextFault
blocks_in text = do
  listed ← listed_blocks MAX_LARGE_ORDER MAX_QUANDLES text
  end ← text_end listed.1
  Ok listed.0

-- the blocks of a text, from its bytes
abbrev pub blocks_of : List ℕ → Result (List Block) TextFault
blocks_of bytes = blocks_in (text_of bytes)
