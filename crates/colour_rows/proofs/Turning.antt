-- Passing under a column to the left is passing to the right under one that runs the other way.
use Rattle.std.proofs.Common.{◌≡◌, ℕ, Bool, true, false, not, refl}
use Rattle.quandle_core.specs.Quandle.{Table}
use Rattle.colour_rows.specs.Walk.{passed_rightward, passed_leftward}

pub leftward_by_turning : (t : Table) (up : Bool) (x y : ℕ) → passed_rightward t (not up) x y ≡ passed_leftward t up x y
leftward_by_turning t true x y = refl
leftward_by_turning t false x y = refl
