-- Colourings of a grid diagram by a quandle: a colour for each column (Joyce 1982).
use Rattle.std.specs.Prelude.{◌≡◌, ◌<◌, ℕ, ◌&&◌, Bool, List, slice_index}
use Rattle.std.specs.List.{range_with_len, list_all}
use Rattle.grid_core.specs.Diagram.{Diagram, size}
use Rattle.grid_core.specs.Parts.{ends}
use Rattle.quandle_core.specs.Quandle.{Table}
pub use Rattle.quandle_core.specs.Colours.{AreColours, are_colours}
use Rattle.colour_rows.specs.Walk.{walk, closes}

-- a colour below the order for each column, such that the walk of each row ends with the colour of its right end
pub record IsColouring (t : Table) (d : Diagram) (colours : List ℕ) : Type 0 where
  pub colours_are : AreColours (size d) t.order colours
  pub rows : (r : ℕ) → r < size d → walk t d colours r ≡ slice_index colours (ends d r).high

-- the same as a test that computes: a law states that they say the same
abbrev pub is_colouring : Table → Diagram → List ℕ → Bool
is_colouring t d colours =
    are_colours (size d) t.order colours && list_all (closes t d colours) (range_with_len 0 (size d))
