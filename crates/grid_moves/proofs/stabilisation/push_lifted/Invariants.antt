use Rattle.std.proofs.Common.{◌≡◌, ◌++◌, map, take}
use Rattle.grid_core.specs.Places.{lifted}
use Rattle.grid_moves.proofs.stabilisation.push_lifted.Given as goal

abbrev pub invariant-loop-r : goal.invariant-loop-r
invariant-loop-r l = l.rows.items ≡ l.fn.rows.items ++ map (lifted l.row) (take l.r-index l.more)
