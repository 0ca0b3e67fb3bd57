-- Planar diagram codes of grid diagrams, in the order of the KnotTheory package.
use Rattle.std.specs.Prelude.{◌≡◌, ◌⊎◌, ℕ, true, false, map, length, neg_ℤ, if◌then◌else◌}
use Rattle.grid_core.specs.Diagram.{Diagram}
use Rattle.grid_core.specs.Crossing.{Direction, column_direction, row_direction, turned_left, is_positive}
use Rattle.crossing_codes.specs.declared.crossing.Code.{Code}
use Rattle.crossing_codes.specs.declared.crossing.Crossing.{Crossing}
use Rattle.crossing_codes.specs.Passages.{Crossed, crossings, through, passages}
use Rattle.crossing_codes.specs.Edges.{edge_from, edge_to, loops}

-- the other way
abbrev pub opposite : Direction → Direction
opposite v = record { x = neg_ℤ v.x; y = neg_ℤ v.y }

-- the edges counterclockwise from that on which the strand under comes: at a positive crossing the strand over runs from the fourth to the second, at
-- a negative one from the second to the fourth
abbrev pub crossing : Diagram → Crossed → Crossing
crossing d at =
    let under = through false at in
    let over = through true at in
    record {
      first = edge_from d under;
      second = if is_positive d at.column at.row then edge_to d over else edge_from d over;
      third = edge_to d under;
      fourth = if is_positive d at.column at.row then edge_from d over else edge_to d over;
      positive = is_positive d at.column at.row;
    }

-- the edge that lies in this direction from a crossing: the strand leaves on it along its own direction, and comes on it the other way
abbrev pub LiesTowards : Diagram → Crossed → Direction → ℕ → Type 0
LiesTowards d at v e =
    (((v ≡ column_direction d at.column) × (e ≡ edge_to d (through true at)))
    ⊎ ((v ≡ opposite (column_direction d at.column)) × (e ≡ edge_from d (through true at))))
    ⊎ (((v ≡ row_direction d at.row) × (e ≡ edge_to d (through false at))) ⊎ ((v ≡ opposite (row_direction d at.row)) × (e ≡ edge_from d (through false at))))

-- the four edges lie in these directions, each a quarter turn counterclockwise from the one before
pub record AreCounterclockwise (d : Diagram) (at : Crossed) (v : Direction) (x : Crossing) : Type 0 where
  pub first : LiesTowards d at v x.first
  pub second : LiesTowards d at (turned_left v) x.second
  pub third : LiesTowards d at (turned_left (turned_left v)) x.third
  pub fourth : LiesTowards d at (turned_left (turned_left (turned_left v))) x.fourth

abbrev pub code : Diagram → Code
code d = record { crossings = map (crossing d) (crossings d); edges = length (passages d); loops = length (loops d) }
