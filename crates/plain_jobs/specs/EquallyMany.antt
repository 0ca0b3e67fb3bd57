-- Two braids that no quandle tells apart by its numbers of fixed points and of colourings.
use Rattle.std.specs.Prelude.{◌≡◌, length}
use Rattle.quandle_core.specs.Quandle.{Table, IsQuandle}
use Rattle.colour_list.specs.Listing.{colourings}
use Rattle.braid_core.specs.Braid.{Word}
use Rattle.braid_core.specs.FixedPoints.{fixed_points}
use Rattle.braid_closure.specs.Closure.{closure}

-- for every quandle the actions of both have equally many fixed points, and their closures equally many colourings
pub record HaveEquallyMany (v w : Word) : Type 0 where
  pub points : (t : Table) → IsQuandle t → length (fixed_points t v) ≡ length (fixed_points t w)
  pub colourings : (t : Table) → IsQuandle t → length (colourings t (closure v)) ≡ length (colourings t (closure w))
