-- The whole text of two diagrams, a quandle, and a cocycle of this quandle.
use Rattle.std.specs.Prelude.{ℕ, List, Result, Ok}
use Rattle.text_lines.specs.Lines.{Text, text_of}
use Rattle.text_items.specs.declared.fault.TextFault.{TextFault}
use Rattle.knot_text.specs.declared.weights.WeightText.{WeightText}
use Rattle.text_items.specs.Reading.{◌>>=◌, text_end}
use Rattle.text_items.specs.Quandles.{quandle_item}
use Rattle.verdict_text.specs.Cocycles.{cocycle_item}
use Rattle.verdict_text.specs.Diagrams.{diagram_item}

-- two diagrams, one quandle and a cocycle of it, and nothing behind them
unfoldable pub weight_in : Text → Result WeightText TextFault
weight_in text = do
  first ← diagram_item text
  second ← diagram_item first.1
  listed ← quandle_item second.1
  cocycle ← cocycle_item listed.0.table listed.1
  end ← text_end cocycle.1
  Ok (record { first = first.0; second = second.0; listed = listed.0; cocycle = cocycle.0 })

-- two diagrams, a quandle and a 2-cocycle of it, from the bytes of a text
abbrev pub weight_of : List ℕ → Result WeightText TextFault
weight_of bytes = weight_in (text_of bytes)
