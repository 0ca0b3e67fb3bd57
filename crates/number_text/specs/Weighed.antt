-- The whole text of two diagrams, a quandle, and a cocycle of this quandle, which may look at regions.
use Rattle.std.specs.Prelude.{ℕ, List, codes, Result, Ok, if◌then◌else◌}
use Rattle.quandle_core.specs.Quandle.{Table}
use Rattle.text_lines.specs.Lines.{Text, text_of, begins}
use Rattle.text_items.specs.declared.fault.TextFault.{TextFault}
use Rattle.text_items.specs.Reading.{◌>>=◌, text_end}
use Rattle.text_items.specs.Quandles.{quandle_item}
use Rattle.verdict_text.specs.Cocycles.{cocycle_item}
use Rattle.verdict_text.specs.Diagrams.{diagram_item}
use Rattle.number_text.specs.Shadows.{shadow_item}
use Rattle.number_text.specs.declared.weighed.Weighing.{Weighing}
use Rattle.number_text.specs.declared.weighed.Weighing.TheVariants.{Strands, Regions}
use Rattle.number_text.specs.declared.weighed.WeighedText.{WeighedText}

-- a 2-cocycle, as what weighs
abbrev pub strands_item : Table → Text → Result (Weighing × Text) TextFault
strands_item quandle text = do
  cocycle ← cocycle_item quandle text
  Ok (Strands cocycle.0, cocycle.1)

-- a shadow cocycle, as what weighs
abbrev pub regions_item : Table → Text → Result (Weighing × Text) TextFault
regions_item quandle text = do
  shadow ← shadow_item quandle text
  Ok (Regions shadow.0, shadow.1)

-- a shadow cocycle of the quandle where a line that begins with `shadow` is next, else a 2-cocycle
unfoldable pub cocycle_due : Table → Text → Result (Weighing × Text) TextFault
cocycle_due quandle text = if begins (codes "shadow") text then regions_item quandle text else strands_item quandle text

-- two diagrams, one quandle and a cocycle of it, and nothing behind them
unfoldable pub weighed_in : Text → Result WeighedText TextFault
weighed_in text = do
  first ← diagram_item text
  second ← diagram_item first.1
  listed ← quandle_item second.1
  cocycle ← cocycle_due listed.0.table listed.1
  end ← text_end cocycle.1
  Ok (record { first = first.0; second = second.0; listed = listed.0; cocycle = cocycle.0 })

-- two diagrams, a quandle and a cocycle of it, from the bytes of a text
abbrev pub weighed_of : List ℕ → Result WeighedText TextFault
weighed_of bytes = weighed_in (text_of bytes)
