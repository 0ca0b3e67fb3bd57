-- Colours of the regions of a diagram, that the columns and rows cut the plane into: shadow colourings
-- (Fenn, Rourke and Sanderson 1995; Carter, Kamada and Saito 2001).
-- Passing a strand of colour y from its right-hand side to its left-hand side takes a region of colour w to one of colour w ▷ y.
use Rattle.std.specs.Prelude.{ℕ, ◌+◌, List, filter, fold, if◌then◌else◌}
use Rattle.std.specs.List.{range_with_len}
use Rattle.grid_core.specs.Diagram.{Diagram}
use Rattle.grid_core.specs.Parts.{is_up, is_rightward}
use Rattle.quandle_core.specs.Quandle.{Table}
use Rattle.colour_rows.specs.Walk.{under}
use Rattle.colour_laws.specs.Level.{covers_height}

-- the colour of the region between rows h - 1 and h that lies left of column c and right of the columns before it:
-- from the outer region, of colour `outer`, through all columns left of c that cover the height
abbrev pub region : Table → Diagram → List ℕ → ℕ → ℕ → ℕ → ℕ
region t d colours outer h c = fold (under t d colours) outer (filter (covers_height d h) (range_with_len 0 c))

-- the height beside row r on its right-hand side: below a row that runs to the right, and above one that runs to the left
abbrev pub height_beside : Diagram → ℕ → ℕ
height_beside d r = if is_rightward d r then r else r + 1

-- the height beside row r on its left-hand side: above a row that runs to the right, and below one that runs to the left
abbrev pub height_across : Diagram → ℕ → ℕ
height_across d r = if is_rightward d r then r + 1 else r

-- the colour of the region at the crossing of column c over row r that lies on the right-hand side of both:
-- behind an up column, before a down one
abbrev pub region_beside : Table → Diagram → List ℕ → ℕ → ℕ → ℕ → ℕ
region_beside t d colours outer c r = region t d colours outer (height_beside d r) (if is_up d c then c + 1 else c)
