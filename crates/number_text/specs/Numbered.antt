-- The whole text of a diagram and the blocks by which its colourings are to be counted.
use Rattle.std.specs.Prelude.{ℕ, List, Result, Ok}
use Rattle.text_lines.specs.Lines.{Text, text_of}
use Rattle.text_items.specs.declared.fault.TextFault.{TextFault}
use Rattle.text_items.specs.Reading.{◌>>=◌, text_end}
use Rattle.verdict_text.specs.Diagrams.{diagram_item}
use Rattle.number_text.specs.declared.numbered.NumbersText.{NumbersText}
use Rattle.number_text.specs.Blocks.{blocks_or_built_in}

-- a diagram and blocks, and nothing behind them
unfoldable pub numbers_in : Text → Result NumbersText TextFault
numbers_in text = do
  diagram ← diagram_item text
  listed ← blocks_or_built_in diagram.1
  end ← text_end listed.1
  Ok (record { diagram = diagram.0; blocks = listed.0 })

-- a diagram and blocks, from the bytes of a text
abbrev pub numbers_of : List ℕ → Result NumbersText TextFault
numbers_of bytes = numbers_in (text_of bytes)
