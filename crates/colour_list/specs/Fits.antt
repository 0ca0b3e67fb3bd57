-- Quandles of which all colourings can be listed: a diagram has at most one colouring for each choice of a colour for each bottom.
use Rattle.std.specs.Prelude.{◌^◌, Bool, nat_le}
use Rattle.grid_core.specs.Diagram.{Diagram}
use Rattle.grid_core.specs.Parts.{bottoms}
use Rattle.quandle_core.specs.Quandle.{Table}
use Rattle.colour_list.specs.declared.limits.TheConstants.{MAX_COLOURINGS}

-- there are at most MAX_COLOURINGS choices of a colour for each bottom
abbrev pub fits : Table → Diagram → Bool
fits t d = nat_le (t.order ^ bottoms d) MAX_COLOURINGS
