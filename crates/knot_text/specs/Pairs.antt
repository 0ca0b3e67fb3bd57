-- The whole text of two diagrams.
use Rattle.std.specs.Prelude.{ℕ, List, Result, Ok}
use Rattle.text_lines.specs.Lines.{Text, text_of}
use Rattle.verdict_core.specs.declared.diagrams.Diagram.{Diagram}
use Rattle.text_items.specs.declared.fault.TextFault.{TextFault}
use Rattle.text_items.specs.Reading.{◌>>=◌, text_end}
use Rattle.verdict_text.specs.Diagrams.{diagram_item}

-- two diagrams, and nothing behind them
unfoldable pub pair_in : Text → Result (Diagram × Diagram) TextFault
pair_in text = do
  first ← diagram_item text
  second ← diagram_item first.1
  end ← text_end second.1
  Ok (first.0, second.0)

-- two diagrams, from the bytes of a text
abbrev pub pair_of : List ℕ → Result (Diagram × Diagram) TextFault
pair_of bytes = pair_in (text_of bytes)
