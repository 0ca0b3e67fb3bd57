-- What may stand behind the quandle of a block: a cocycle of this quandle.
use Rattle.std.specs.Prelude.{List, codes, Option, Some, None, Result, Ok, if◌then◌else◌}
use Rattle.quandle_core.specs.Quandle.{Table}
use Rattle.text_lines.specs.Lines.{Text, begins}
use Rattle.text_items.specs.declared.fault.TextFault.{TextFault}
use Rattle.text_items.specs.Reading.{◌>>=◌}
use Rattle.verdict_text.specs.Cocycles.{cocycle_item}
use Rattle.number_text.specs.Shadows.{shadow_item}
use Rattle.evidence_core.specs.declared.blocks.LargeWeighing.{LargeWeighing}
use Rattle.evidence_core.specs.declared.blocks.LargeWeighing.TheVariants.{Strands, Regions}

-- a 2-cocycle, as what stands behind a block's quandle
abbrev pub some_strands : Table → Text → Result (Option LargeWeighing × Text) TextFault
some_strands quandle text = do
  cocycle ← cocycle_item quandle text
  Ok (Some (Strands cocycle.0), cocycle.1)

-- a shadow cocycle, as what stands behind a block's quandle
abbrev pub some_regions : Table → Text → Result (Option LargeWeighing × Text) TextFault
some_regions quandle text = do
  shadow ← shadow_item quandle text
  Ok (Some (Regions shadow.0), shadow.1)

-- a 2-cocycle of the quandle where a line that begins with `weight` is next, a shadow cocycle where one that begins with `shadow` is, else nothing
unfoldable pub cocycle_or_none : Table → Text → Result (Option LargeWeighing × Text) TextFault
cocycle_or_none quandle text =
    if begins (codes "weight") text then some_strands quandle text else if begins (codes "shadow") text then some_regions quandle text else Ok (None, text)
