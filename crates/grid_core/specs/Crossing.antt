-- Crossings of a grid diagram and their signs. Verticals pass over horizontals.
-- Columns run from their X to their O, and rows from their O to their X (Cromwell 1995, Dynnikov 2006).
use Rattle.std.specs.Prelude.{ℕ, ℤ, pos, negsuc, ◌*ℤ◌, ◌-ℤ◌, neg_ℤ, ◌&&◌, Bool, int_lt, if◌then◌else◌}
use Rattle.grid_core.specs.Diagram.{Diagram}
use Rattle.grid_core.specs.Span.{lies_within}
use Rattle.grid_core.specs.Parts.{covers, ends, is_up, is_rightward}

-- column c passes over row r: it covers the row, and lies strictly between the row's ends
abbrev pub crosses : Diagram → ℕ → ℕ → Bool
crosses d c r = covers d c r && lies_within (ends d r) c

-- one forward, one backward
abbrev pub unit : Bool → ℤ
unit forward = if forward then pos 1 else negsuc 0

-- the directions in which a column and a row run
pub record Direction : Type 0 where
  pub x : ℤ
  pub y : ℤ

abbrev pub column_direction : Diagram → ℕ → Direction
column_direction d c = record { x = pos 0; y = unit (is_up d c) }

abbrev pub row_direction : Diagram → ℕ → Direction
row_direction d r = record { x = unit (is_rightward d r); y = pos 0 }

-- a quarter turn counterclockwise
abbrev pub turned_left : Direction → Direction
turned_left v = record { x = neg_ℤ v.y; y = v.x }

-- the cross product ox uy - oy ux, for the direction o of the strand over and u of the strand under
abbrev pub cross_product : Direction → Direction → ℤ
cross_product o u = (o.x *ℤ u.y) -ℤ (o.y *ℤ u.x)

-- the sign of the crossing of column c over row r, 1 or -1: that of the cross product, which in a grid diagram is 1 or -1 itself
abbrev pub sign : Diagram → ℕ → ℕ → ℤ
sign d c r = cross_product (column_direction d c) (row_direction d r)

-- the crossing of column c over row r is positive: by a law, the row runs a quarter turn to the left of the column
abbrev pub is_positive : Diagram → ℕ → ℕ → Bool
is_positive d c r = int_lt (pos 0) (sign d c r)
