-- The whole text of a replay, a listing of colourings, a closure and a lone diagram.
use Rattle.std.specs.Prelude.{ℕ, List, codes, Result, Ok, if◌then◌else◌}
use Rattle.text_lines.specs.Lines.{Text, text_of, begins}
use Rattle.text_items.specs.declared.fault.TextFault.{TextFault}
use Rattle.verdict_core.specs.declared.diagrams.Diagram.{Diagram}
use Rattle.knot_text.specs.declared.shapes.ReplayText.{ReplayText}
use Rattle.knot_text.specs.declared.shapes.ColourText.{ColourText}
use Rattle.knot_text.specs.declared.shapes.CloseText.{CloseText}
use Rattle.verdict_core.specs.Diagrams.{column_count}
use Rattle.text_items.specs.Reading.{◌>>=◌, text_end}
use Rattle.text_items.specs.Braids.{braid_item}
use Rattle.verdict_text.specs.Diagrams.{diagram_item}
use Rattle.verdict_text.specs.Moves.{moves_item}
use Rattle.text_items.specs.Quandles.{quandle_list}
use Rattle.knot_text.specs.Colours.{coloured}

-- a diagram and moves, and perhaps a quandle and a colour for each column of the diagram
unfoldable pub replay_in : Text → Result ReplayText TextFault
replay_in text = do
  diagram ← diagram_item text
  moves ← moves_item diagram.1
  colours ← coloured (column_count diagram.0) moves.1
  end ← text_end colours.1
  Ok (record { diagram = diagram.0; moves = moves.0; colours = colours.0 })

-- a diagram and any number of quandles
unfoldable pub colour_in : Text → Result ColourText TextFault
colour_in text = do
  diagram ← diagram_item text
  listed ← quandle_list diagram.1
  end ← text_end listed.1
  Ok (record { diagram = diagram.0; quandles = listed.0 })

-- a braid and any number of quandles
unfoldable pub close_in : Text → Result CloseText TextFault
close_in text = do
  braid ← braid_item text
  listed ← quandle_list braid.1
  end ← text_end listed.1
  Ok (record { braid = braid.0; quandles = listed.0 })

-- a diagram, and nothing behind it
unfoldable pub lone_diagram_in : Text → Result Diagram TextFault
lone_diagram_in text = do
  diagram ← diagram_item text
  end ← text_end diagram.1
  Ok diagram.0

-- a replay, from the bytes of a text
abbrev pub replay_of : List ℕ → Result ReplayText TextFault
replay_of bytes = replay_in (text_of bytes)

-- a listing of colourings, from the bytes of a text
abbrev pub colour_of : List ℕ → Result ColourText TextFault
colour_of bytes = colour_in (text_of bytes)

-- a closure, from the bytes of a text
abbrev pub close_of : List ℕ → Result CloseText TextFault
close_of bytes = close_in (text_of bytes)

-- a lone diagram, from the bytes of a text
abbrev pub lone_diagram_of : List ℕ → Result Diagram TextFault
lone_diagram_of bytes = lone_diagram_in (text_of bytes)
