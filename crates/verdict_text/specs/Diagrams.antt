-- A diagram as a text: a grid or a braid.
use Rattle.std.specs.Prelude.{codes, Result, Ok, if◌then◌else◌}
use Rattle.text_lines.specs.Lines.{Text, begins}
use Rattle.verdict_core.specs.declared.diagrams.Diagram.{Diagram}
use Rattle.verdict_core.specs.declared.diagrams.Diagram.TheVariants.{Grid, Braid}
use Rattle.text_items.specs.declared.fault.TextFault.{TextFault}
use Rattle.text_items.specs.Reading.{◌>>=◌}
use Rattle.text_items.specs.Grids.{grid_item}
use Rattle.text_items.specs.Braids.{braid_item}

-- a braid, as a diagram
abbrev pub braid_diagram : Text → Result (Diagram × Text) TextFault
braid_diagram text = do
  braid ← braid_item text
  Ok (Braid braid.0, braid.1)

-- a grid, as a diagram
abbrev pub grid_diagram : Text → Result (Diagram × Text) TextFault
grid_diagram text = do
  grid ← grid_item text
  Ok (Grid grid.0, grid.1)

-- a braid where a line that begins with `braid` is next, else a grid
unfoldable pub diagram_item : Text → Result (Diagram × Text) TextFault
diagram_item text = if begins (codes "braid") text then braid_diagram text else grid_diagram text
